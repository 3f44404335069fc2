-- `measurement::Matrix::identity` meets its contract: its 36 numbers are compared with those of `one` by a computed test. Assumes nothing.
use Rattle.bicycle_common.specs.Ranges.{all_below}
use Rattle.measurement.specs.Matrices.{one}
use Rattle.measurement.proofs.Matrices.{same_test, same_by_test}
use Rattle.measurement.proofs.Matrix.identity.Goals as goal

pub returns : goal.returns
unfolding one same_test all_below
returns c = same_by_test 6 _ _ tt
