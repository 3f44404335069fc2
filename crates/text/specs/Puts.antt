-- What a call that puts text into a buffer leaves. Assumes nothing.
use Rattle.std.specs.Prelude.{List, ◌≡◌, ℕ, ◌+◌, length}
use Rattle.std.proofs.lemmas.List.Edits.{sets}
use Rattle.text.specs.declared.Out.{Out}

-- Text was put at the place, as far as there is room, and the next place is told; the buffer is still the one that was lent. `sets` stores
-- nothing past the end, so this is said of a buffer of any length, of an empty one too: then only the next place counts.
pub record Put (before : Out) (t : List ℕ) (after : Out) : Type 0 where
  pub same : after.bytes.ghost_name ≡ before.bytes.ghost_name
  pub moves : after.at ≡ before.at + length t
  pub leaves : after.bytes.now ≡ sets before.bytes.now before.at t
