-- `measurement::measures` meets its contract: two matrices of zeros and ones are good. Assumes nothing.
use mathlib.Core.Path.{◌∙◌}
use Rattle.measurement.specs.Matrices.{of_rows}
use Rattle.measurement.proofs.Matrices.{binary_true}
use Rattle.measurement.proofs.Strings.{both_good}
use Rattle.measurement.proofs.measures.Goals as goal

pub returns : goal.returns
returns c =
    let x = c.in_ok-mx in
    let y = c.in_ok-my in
    rw (← x.ensures, ← y.ensures)
    (c.native_string.ensures
    ∙ both_good 6 (of_rows x.mx.rows) (of_rows y.my.rows) c.args.n.0 _ _ (binary_true 6 _ x.mx.binary) (binary_true 6 _ y.my.binary))
