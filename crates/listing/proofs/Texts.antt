-- How the texts of the listing are put together from pieces: a native's two lines, rotation after rotation. Assumes nothing.
use mathlib.Core.List.{List, [], ◌∷◌, ◌++◌}
use mathlib.Core.Path.{◌≡◌, refl, sym, ap, ◌∙◌}
use Prim.Native.Nat.{ℕ, ◌+◌, ◌^◌, ◌<◌, ◌≤◌}
use native.Mathlib.Omega.{arith}
use lib.ListN.{length, take, get_or}
use lib.Seq.{take_all}
use Rattle.std.specs.List.{flat_map}
use Rattle.std.proofs.lemmas.List.Folds.{length-flat_map-take}
use Rattle.std.proofs.lemmas.List.Concat.{flat_map-cons}
use Rattle.text.specs.declared.Out.{Out}
use Rattle.text.specs.Puts.{Put}
use Rattle.native_measurement.specs.declared.NativeNumber.{NativeNumber}
use Rattle.listing.specs.Listings.{rotation_text, rotations_text}

module _ (f : ℕ → ℕ) where
  rotations_law : (ns : List NativeNumber) → rotations_text f ns ≡ flat_map (rotation_text f) ns
  unfolding rotations_text
  rotations_law [] = refl
  rotations_law (n ∷ ns) = ap (λ (t : List ℕ). rotation_text f n ++ t) (rotations_law ns) ∙ sym (flat_map-cons (rotation_text f) n ns)

  -- k rotations are put
  module _ {x y : Out} (ns : List NativeNumber) (k : ℕ) (p : Put x (flat_map (rotation_text f) (take k ns)) y) where
    -- there is room for one more
    pub rotation_room : (d : NativeNumber) → x.at + length (rotations_text f ns) < 2 ^ 64 → k < length ns → y.at + length (rotation_text f (get_or ns k d)) < 2 ^ 64
    rotation_room d r h = omega (arith, ap length (rotations_law ns), length-flat_map-take (rotation_text f) ns k d h, p.moves)

    -- all are
    pub rotations_put : length ns ≤ k → Put x (rotations_text f ns) y
    rotations_put h = rw (rotations_law ns) (rw (take_all k ns h) at p)
