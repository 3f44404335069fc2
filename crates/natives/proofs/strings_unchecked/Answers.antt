-- `natives::strings_unchecked` meets its contract: the cells show the natives' strings. Assumes nothing.
use mathlib.Core.Path.{◌∙◌}
use Rattle.bicycle_common.proofs.Ranges.{listed_all}
use Rattle.measurement.specs.Measures.{pair_string}
use Rattle.natives.proofs.strings_unchecked.Goals as goal

pub returns : goal.returns
returns c =
    let p = c.args.pair in
    let u = c.blocks-2.ensures in
    listed_all (pair_string 6 p.mx.now p.my.now) 0 _ 540 u.0 (λ n h. u.1 n h ∙ c.cells_unchecked.ensures n h)
