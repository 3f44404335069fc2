-- The flag of a native says whether it is kept. Assumes nothing.
use mathlib.Core.Bool.{Bool, false}
use mathlib.Core.List.{List}
use mathlib.Core.Path.{◌≡◌, ap, ◌∙◌}
use Prim.Native.Nat.{ℕ, ◌<◌}
use lib.ListN.{get_or}
use Rattle.bicycle_common.proofs.Ranges.{listed_at}
use Rattle.native_measurement.specs.Natives.{natives}
use Rattle.natives.specs.declared.Natives.{Natives}
use Rattle.natives.specs.Kept.{kept}
use Rattle.natives.specs.Arrays.{at}

pub kept_flag : (c : Natives) (n : ℕ) → n < natives → get_or c.kept n false ≡ kept (at c.strings) n
kept_flag c n l = ap (λ (l : List Bool). get_or l n false) c.flagged ∙ listed_at (kept (at c.strings)) false natives n l
