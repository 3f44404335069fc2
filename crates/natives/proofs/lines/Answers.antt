-- `natives::lines` meets its contract: the loop writes the cells of one first component a turn. Assumes nothing.
use mathlib.Core.Path.{refl}
use Prim.Native.Nat.{ℕ, ◌+◌, ◌*◌}
use native.Mathlib.Omega.{arith}
use Rattle.natives.specs.Cells.{grid_cell}
use Rattle.natives.proofs.Shown.{block_more}
use Rattle.natives.proofs.lines.Goals as goal

pub loop-x-preserved : goal.loop-x-preserved
loop-x-preserved c =
    let w = c.loop-x in
    let f = grid_cell c.args.cs.now.rows c.args.rs.now.rows in
    block_more 6 36 w.x f (λ (y : ℕ). f (6 * w.x + y)) w.out _ (omega arith) (λ k h. refl) c.line.ensures w.invariant
