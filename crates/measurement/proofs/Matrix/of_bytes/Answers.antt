-- `measurement::Matrix::of_bytes` meets its contract: the loop reads one row a turn. Assumes nothing.
use mathlib.Core.Path.{refl}
use native.Mathlib.Omega.{arith}
use Rattle.bicycle_common.proofs.Filled.{filled_none, filled_more, filled_each}
use Rattle.measurement.proofs.Matrices.{same_binary}
use Rattle.measurement.proofs.Strings.{bytes_good}
use Rattle.measurement.proofs.Matrix.of_bytes.Goals as goal

pub loop-i-init : goal.loop-i-init
loop-i-init c = filled_none refl

pub loop-i-preserved : goal.loop-i-preserved
loop-i-preserved c = filled_more c.loop-i.invariant (omega arith) c.row_of.ensures

pub invariant_of-result : goal.invariant_of-result
invariant_of-result c =
    record { binary = same_binary 6 (λ i k hi hk. filled_each c.loop-i.invariant (omega arith) i hi k hk) (bytes_good 6 c.args.b.now c.requires).1 }

pub returns : goal.returns
returns c = λ i k hi hk. filled_each c.loop-i.invariant (omega arith) i hi k hk
