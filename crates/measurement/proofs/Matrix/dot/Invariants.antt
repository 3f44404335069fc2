-- `measurement::Matrix::dot` meets its contract: the loop adds one product of two digits a turn, so the sum stays at most 6. Assumes nothing.
use mathlib.Core.Path.{◌≡◌}
use Prim.Native.Nat.{ℕ, ◌*◌, ◌≤◌}
use Rattle.bicycle_common.specs.Ranges.{sum}
use Rattle.measurement.specs.Matrices.{of_rows}
use Rattle.measurement.proofs.Matrix.dot.Given as goal

abbrev pub invariant-loop-j : goal.invariant-loop-j
invariant-loop-j l = (l.acc ≤ l.j) × (l.acc ≡ sum l.j (λ (t : ℕ). of_rows l.self.rows l.i t * of_rows l.other.rows t l.k))
