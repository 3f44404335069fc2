-- `measurement::Matrix::new` meets its contract: the numbers by rows are good exactly when the matrix is. Assumes nothing.
use mathlib.Core.Path.{◌≡◌, refl, sym, ap, ◌∙◌}
use mathlib.Core.Bool.{Bool}
use mathlib.Core.List.{List}
use Prim.Native.Nat.{ℕ}
use Rattle.measurement.specs.Matrices.{side, of_rows, by_rows, is_binary, is_bytes}
use Rattle.measurement.proofs.Matrices.{by_rows_binary, is_binary_law}
use Rattle.measurement.proofs.Matrix.new.Goals as goal

tested : (m : List (List ℕ)) (l : List ℕ) (b : Bool) → l ≡ by_rows side m → b ≡ is_bytes side l → is_binary side (of_rows m) ≡ b
tested m l b e h = sym (h ∙ ap (is_bytes side) e ∙ by_rows_binary m)

pub invariant_of-result : goal.invariant_of-result
invariant_of-result c = record { binary = is_binary_law side _ (tested _ _ _ c.flat.ensures c.if-is_matrix.ensures) }

pub returns-else-is_matrix : goal.returns-else-is_matrix
returns-else-is_matrix c = (refl, tested _ _ _ c.flat.ensures c.if-is_matrix.ensures)
