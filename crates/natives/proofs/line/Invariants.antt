-- `natives::line` meets its contract: the loop writes one cell a turn, and leaves those before the block. Assumes nothing.
use mathlib.Core.Path.{◌≡◌}
use Prim.Native.Nat.{ℕ, ◌+◌, ◌*◌, ◌<◌}
use lib.ListN.{length}
use Rattle.natives.specs.Arrays.{at}
use Rattle.natives.specs.Cells.{grid_cell}
use Rattle.natives.proofs.line.Given as goal

abbrev pub invariant-loop-y : goal.invariant-loop-y
invariant-loop-y l = (length l.out ≡ 36) × ((t : ℕ) → t < 6 * l.x → at l.out t ≡ at l.initial.out t) × ((j : ℕ) → j < l.y → at l.out (6 * l.x + j) ≡ grid_cell l.cs.rows l.rs.rows (6 * l.x + j))
