-- `measurement::Matrix::product` meets its contract: the loop forms one row a turn. Assumes nothing.
use mathlib.Core.Path.{◌≡◌}
use mathlib.Core.List.{List, []}
use Prim.Native.Nat.{ℕ, ◌<◌}
use lib.ListN.{get_or}
use Rattle.bicycle_common.proofs.Filled.{Filled}
use Rattle.measurement.specs.Matrices.{of_rows, mul}
use Rattle.measurement.proofs.Matrix.product.Given as goal

abbrev pub invariant-loop-i : goal.invariant-loop-i
invariant-loop-i l =
    Filled (λ (t : ℕ) (x : List ℕ). (k : ℕ) → k < 6 → get_or x k 0 ≡ mul 6 (of_rows l.self.rows) (of_rows l.other.rows) t k) [] 6 l.i l.rows
