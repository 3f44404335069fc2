-- `table::put_unchecked` meets its contract: four bytes written at once are the definition's four stores. Assumes nothing.
use mathlib.Core.Path.{◌≡◌, refl, sym, ap, ◌∙◌}
use mathlib.Core.List.{List, [], ◌∷◌}
use Prim.Native.Nat.{ℕ, ◌+◌, ◌<◌}
use native.Mathlib.Omega.{arith}
use lib.ListN.{length, set}
use lib.Seq.{paste}
use Rattle.std.proofs.lemmas.List.Edits.{paste_none, paste_more}
use Rattle.std.proofs.lemmas.Slice.{put_mid-paste}
use Rattle.table.specs.Bytes.{put}
use Rattle.table.proofs.put_unchecked.Goals as goal

four : (d : List ℕ) (at x y z w : ℕ) → at + 3 < length d
    → paste d at (x ∷ y ∷ z ∷ w ∷ []) 4 ≡ set (set (set (set d at x) (at + 1) y) (at + 2) z) (at + 3) w
four d at x y z w h =
    let s = x ∷ y ∷ z ∷ w ∷ [] in
    let n : at ≡ at + 0 = omega arith in
    sym
    (ap (λ (l : List ℕ). set (set (set (set l at x) (at + 1) y) (at + 2) z) (at + 3) w) (paste_none d at s)
    ∙ ap (λ (l : List ℕ). set (set (set l (at + 1) y) (at + 2) z) (at + 3) w)
    (ap (λ (i : ℕ). set (paste d at s 0) i x) n ∙ paste_more d at s 0 0 (omega arith) (omega arith))
    ∙ ap (λ (l : List ℕ). set (set l (at + 2) z) (at + 3) w) (paste_more d at s 1 0 (omega arith) (omega arith))
    ∙ ap (λ (l : List ℕ). set l (at + 3) w) (paste_more d at s 2 0 (omega arith) (omega arith))
    ∙ paste_more d at s 3 0 h (omega arith))

pub returns : goal.returns
unfolding put
returns c =
    put_mid-paste _ _ _ _ _ 4 (c.copy_from_slice.ensures.after ∙ c.to_le_bytes.ensures) (omega arith) refl
    ∙ four c.args.table.now _ _ _ _ _ (omega arith)
