-- `measurement::MatrixPair::native_string` meets its contract: the number is a native's, as `try_from` answers. Assumes nothing.
use mathlib.Core.Path.{sym, ◌∙◌}
use Rattle.measurement.specs.Matrices.{of_rows}
use Rattle.measurement.proofs.Strings.{the_string}
use Rattle.measurement.proofs.MatrixPair.native_string.Goals as goal

pub returns : goal.returns
returns c =
    let g = c.args in
    the_string 6 (of_rows g.self.mx.rows) (of_rows g.self.my.rows) g.n.0 _ (sym c.try_from.ensures ∙ c.in_ok-native.was) _ c.string_of.ensures
