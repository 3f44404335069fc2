-- `natives::Cells::blocks` meets its contract: the loop writes the fifteen strings of one automorphism a turn. Assumes nothing.
use Rattle.natives.specs.Cells.{shown, Upto}
use Rattle.natives.proofs.Cells.blocks.Given as goal

abbrev pub invariant-loop-a : goal.invariant-loop-a
invariant-loop-a l = Upto 15 540 (shown l.self.cells) l.a l.out
