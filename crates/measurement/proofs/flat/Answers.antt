-- `measurement::flat` meets its contract: the loop copies the numbers in the order of the rows. Assumes nothing.
use mathlib.Core.Path.{refl}
use native.Mathlib.Omega.{arith}
use Rattle.bicycle_common.proofs.Filled.{filled_none, filled_more, filled_all}
use Rattle.measurement.proofs.flat.Goals as goal

pub loop-q-init : goal.loop-q-init
loop-q-init c = filled_none refl

pub loop-q-preserved : goal.loop-q-preserved
loop-q-preserved c = filled_more c.loop-q.invariant (omega arith) refl

pub returns : goal.returns
returns c = filled_all c.loop-q.invariant (omega arith)
