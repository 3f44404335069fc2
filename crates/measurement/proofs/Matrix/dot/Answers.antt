-- `measurement::Matrix::dot` meets its contract: both numbers of a product are digits, and the sum is the definition's. Assumes nothing.
use borrow.Author.Rules.{rules}
use mathlib.Core.Path.{◌≡◌, refl}
use native.Mathlib.Omega.{arith}
use Rattle.bicycle_common.specs.Ranges.{sum}
use Rattle.bicycle_common.proofs.Ranges.{sum_next}
use Rattle.measurement.specs.Matrices.{mul}
use Rattle.measurement.proofs.Matrices.{product_le}
use Rattle.measurement.proofs.Matrix.dot.Goals as goal

pub loop-j-init : goal.loop-j-init
unfolding sum
loop-j-init c = (search rules, refl)

pub loop-j-preserved : goal.loop-j-preserved
loop-j-preserved c =
    let j = c.loop-j.j in
    let a = c.args.self in
    let b = c.args.other in
    (omega (arith, product_le _ _ (a.binary c.args.i j (omega arith) (omega arith)) (b.binary j c.args.k (omega arith) (omega arith))), rw sum_next (cc))

pub returns : goal.returns
unfolding mul
returns c = let e : c.loop-j.j ≡ 6 = omega arith in cc
