-- `natives::Grid::of` meets its contract: each row of the grid is a run from one head, and the heads are a run from 1. Assumes nothing.
use mathlib.Core.List.{List, []}
use mathlib.Core.Path.{◌≡◌}
use Prim.Native.Nat.{ℕ, ◌<◌}
use lib.ListN.{get_or}
use Rattle.bicycle_common.proofs.Filled.{Filled}
use Rattle.natives.specs.Arrays.{at}
use Rattle.natives.specs.Packed.{walked}
use Rattle.natives.proofs.Grid.of.Given as goal

abbrev pub invariant-loop-i : goal.invariant-loop-i
invariant-loop-i l = Filled (λ (t : ℕ) (x : List ℕ). (j : ℕ) → j < 6 → get_or x j 0 ≡ walked l.through.low l.through.high (at l.head-items t) j) [] 6 l.i l.rows
