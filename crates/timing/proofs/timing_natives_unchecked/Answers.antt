-- `timing::timing_natives_unchecked` meets its contract: the arrays hold at each native what they are defined to hold. Assumes nothing.
use mathlib.Core.Bool.{Bool, false}
use mathlib.Core.List.{List}
use mathlib.Core.Path.{ap, ◌∙◌}
use lib.ListN.{get_or}
use Rattle.bicycle_common.proofs.Ranges.{listed_at}
use Rattle.native_measurement.specs.Natives.{natives}
use Rattle.measurement.specs.Matrices.{side}
use Rattle.measurement.specs.Measures.{pair_string}
use Rattle.natives.specs.Kept.{kept}
use Rattle.natives.proofs.Arrays.{natives_at}
use Rattle.timing.proofs.timing_natives_unchecked.Goals as goal

pub returns-clause-string_value : goal.returns-clause-string_value
returns-clause-string_value c =
    natives_at c.args.mx.now c.args.my.now _ c.natives_unchecked-all.ensures.strings c.args.n c.requires.2

pub returns-clause-kept_value : goal.returns-clause-kept_value
returns-clause-kept_value c =
    ap (λ (l : List Bool). get_or l c.args.n false) c.natives_unchecked-all.ensures.kept
    ∙ listed_at (kept (pair_string side c.args.mx.now c.args.my.now)) false natives c.args.n c.requires.2
