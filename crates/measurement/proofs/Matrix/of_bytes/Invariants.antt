-- `measurement::Matrix::of_bytes` meets its contract: the loop reads one row a turn. Assumes nothing.
use mathlib.Core.Path.{◌≡◌}
use mathlib.Core.List.{List, []}
use Prim.Native.Nat.{ℕ, ◌<◌}
use lib.ListN.{get_or}
use Rattle.bicycle_common.proofs.Filled.{Filled}
use Rattle.measurement.specs.Matrices.{of_bytes}
use Rattle.measurement.proofs.Matrix.of_bytes.Given as goal

abbrev pub invariant-loop-i : goal.invariant-loop-i
invariant-loop-i l = Filled (λ (t : ℕ) (x : List ℕ). (k : ℕ) → k < 6 → get_or x k 0 ≡ of_bytes 6 l.b t k) [] 6 l.i l.rows
