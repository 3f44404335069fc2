-- `measurement::MatrixPair::action` meets its contract: the two powers are what their contracts say, and a product reads the numbers below the
-- side alone. Assumes nothing.
use Rattle.measurement.specs.Measures.{action}
use Rattle.measurement.proofs.Matrices.{same_trans, mul_same}
use Rattle.measurement.proofs.MatrixPair.action.Goals as goal

pub returns : goal.returns
unfolding action
returns c =
    let x = c.get_x.ensures in
    let y = c.get_y.ensures in
    rw (← x, ← y) (same_trans 6 c.product.ensures (mul_same 6 c.power-x.ensures c.power-y.ensures))
