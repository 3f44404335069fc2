-- `measurement::Matrix::power` meets its contract: each turn multiplies by m once more. Assumes nothing.
use Rattle.measurement.specs.Matrices.{of_rows, pow, Same}
use Rattle.measurement.proofs.Matrix.power.Given as goal

abbrev pub invariant-loop-t : goal.invariant-loop-t
invariant-loop-t l = Same 6 (of_rows l.out.rows) (pow 6 (of_rows l.self.rows) l.t)
