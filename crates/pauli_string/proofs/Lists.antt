-- Lists in reverse, and lists that a loop fills from the end. Assumes nothing.
use mathlib.Core.Path.{◌≡◌, refl, ap, ap₂, ◌∙◌}
use mathlib.Core.Bool.{Bool, true, false}
use mathlib.Core.List.{List, [], ◌∷◌, ◌++◌, reverse, reverse-cons}
use Prim.Native.Nat.{ℕ, suc, ◌-◌, ◌≤◌, ◌<◌}
use native.Mathlib.Nat.{not-suc-le-zero}
use native.Mathlib.Omega.{arith}
use lib.Dec.{ltb}
use borrow.Author.Tests.{ltb-true, ltb-false}
use lib.ListN.{length, get_or, drop, set, length-set, length-reverse, get_or-append}
use lib.Seq.{drop-cons, get_or-set_same, drop-set-lt, get_or-append_seam}

module _ {A : Type 0} where
  -- ---- filled from the end: one element more in front of those that are there

  pub drop_set : (d : A) (l : List A) (i : ℕ) (a : A) → i < length l → drop i (set l i a) ≡ a ∷ drop (suc i) l
  drop_set d l i a h =
      drop-cons (set l i a) i d (simp length-set h)
      ∙ ap₂ (λ (b : A) (m : List A). b ∷ m) (get_or-set_same l i a d h) (drop-set-lt (suc i) l i a (omega arith))

  -- ---- reverse

  pub get_d_reverse : (d : A) (l : List A) (i : ℕ) → i < length l → get_or (reverse l) i d ≡ get_or l (length l - 1 - i) d
  get_d_reverse d [] i h = absurd (not-suc-le-zero h)
  get_d_reverse d (x ∷ l) i h = ap (λ (m : List A). get_or m i d) (reverse-cons x l) ∙ go (get_d_reverse d l i) (ltb i (length l)) refl
    where
      n : length (reverse l) ≡ length l
      n = length-reverse l

      go : (i < length l → get_or (reverse l) i d ≡ get_or l (length l - 1 - i) d) → (b : Bool) → ltb i (length l) ≡ b
          → get_or (reverse l ++ (x ∷ [])) i d ≡ get_or (x ∷ l) (suc (length l) - 1 - i) d
      go ih true e =
          let k : i < length l = ltb-true i (length l) e in
          let j : suc (length l - 1 - i) ≡ suc (length l) - 1 - i = omega arith in
          get_or-append (reverse l) (x ∷ []) d i (omega (arith, n)) ∙ ih k ∙ ap (λ (m : ℕ). get_or (x ∷ l) m d) j
      go ih false e =
          let k : length l ≤ i = ltb-false i (length l) e in
          let j : i ≡ length (reverse l) = omega (arith, n) in
          let z : 0 ≡ suc (length l) - 1 - i = omega arith in
          ap (λ (m : ℕ). get_or (reverse l ++ (x ∷ [])) m d) j ∙ get_or-append_seam (reverse l) x [] d ∙ ap (λ (m : ℕ). get_or (x ∷ l) m d) z
