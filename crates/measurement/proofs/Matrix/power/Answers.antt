-- `measurement::Matrix::power` meets its contract: each turn multiplies by m once more. Assumes nothing.
use Rattle.measurement.specs.Matrices.{pow}
use Rattle.measurement.proofs.Matrices.{pow_next}
use Rattle.measurement.proofs.Matrix.power.Goals as goal

pub loop-t-init : goal.loop-t-init
unfolding pow
loop-t-init c = c.identity-out.ensures

pub loop-t-preserved : goal.loop-t-preserved
loop-t-preserved c = pow_next 6 _ _ c.loop-t.invariant c.product-out.ensures
