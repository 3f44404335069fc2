-- `natives::lines` meets its contract: the loop writes the cells of one first component a turn. Assumes nothing.
use Rattle.natives.specs.Cells.{grid_cell, Upto}
use Rattle.natives.proofs.lines.Given as goal

abbrev pub invariant-loop-x : goal.invariant-loop-x
invariant-loop-x l = Upto 6 36 (grid_cell l.cs.rows l.rs.rows) l.x l.out
