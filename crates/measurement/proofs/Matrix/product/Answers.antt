-- `measurement::Matrix::product` meets its contract: the loop forms one row a turn, and what is modulo 2 is a digit. Assumes nothing.
use mathlib.Core.Path.{refl}
use native.Mathlib.Omega.{arith}
use Rattle.bicycle_common.proofs.Filled.{filled_none, filled_more, filled_each}
use Rattle.measurement.proofs.Matrices.{same_binary, mul_binary}
use Rattle.measurement.proofs.Matrix.product.Goals as goal

pub loop-i-init : goal.loop-i-init
loop-i-init c = filled_none refl

pub loop-i-preserved : goal.loop-i-preserved
loop-i-preserved c = filled_more c.loop-i.invariant (omega arith) c.product_row.ensures

pub invariant_of-result : goal.invariant_of-result
invariant_of-result c = record { binary = same_binary 6 (λ i k hi hk. filled_each c.loop-i.invariant (omega arith) i hi k hk) (mul_binary 6 _ _) }

pub returns : goal.returns
returns c = λ i k hi hk. filled_each c.loop-i.invariant (omega arith) i hi k hk
