-- Texts put one after another are one text. Assumes nothing.
use mathlib.Core.List.{List, [], ◌∷◌, ◌++◌, append-nil, append_assoc}
use mathlib.Core.Logic.{⊎_elim}
use mathlib.Core.Path.{◌≡◌, refl, sym, ◌∙◌}
use Prim.Native.Nat.{ℕ, zero, suc, ◌+◌, ◌-◌, ◌<◌, ◌≤◌}
use native.Mathlib.Nat.{add-zero}
use native.Mathlib.Omega.{arith}
use lib.ListN.{length, set, take, drop, get_or, length-append, length-set}
use lib.Seq.{sets, sets-eq, take_all, length-take-le}
use Rattle.std.specs.Prelude.{min}
use Rattle.bicycle_common.proofs.Ranges.{lt_or_ge}
use Rattle.std.specs.List.{flat_map}
use Rattle.std.proofs.lemmas.List.{take_more, set_past}
use Rattle.std.proofs.lemmas.Grind.{flat_map-append}
use Rattle.text.specs.declared.Out.{Out}
use Rattle.text.specs.Puts.{Put}

sets_append : (a b : List ℕ) (l : List ℕ) (i : ℕ) → sets (sets l i a) (i + length a) b ≡ sets l i (a ++ b)
sets_append [] b l i = rw add-zero
sets_append (x ∷ a) b l i =
    let e : i + suc (length a) ≡ suc i + length a = omega arith in
    rw e (sets_append a b (set l i x) (suc i))

-- past the end nothing is stored
sets_past : (s l : List ℕ) (i : ℕ) → length l ≤ i → sets l i s ≡ l
sets_past [] l i h = refl
sets_past (a ∷ s) l i h = rw (set_past l i a h) (sets_past s l (suc i) (omega arith))

-- of a text only what there is room for
sets_room : (s l : List ℕ) (i n : ℕ) → length l ≤ i + n → sets l i s ≡ sets l i (take n s)
sets_room [] l i zero h = refl
sets_room [] l i (suc n) h = refl
sets_room (a ∷ s) l i zero h = sets_past (a ∷ s) l i (omega arith)
sets_room (a ∷ s) l i (suc n) h = sets_room s (set l i a) (suc i) n (omega (arith, length-set l i a))

sets_front : (s l : List ℕ) (i n : ℕ) → n ≡ min (length s) (length l - i) → i < length l → sets l i s ≡ take i l ++ (take n s ++ drop (i + n) l)
sets_front s l i n e h =
    let k : length (take n s) ≡ n = length-take-le n s (omega (arith, e)) in
    let f : sets l i s ≡ sets l i (take n s) = ⊎_elim (λ q. sets_room s l i n (omega (arith, e, q))) (λ q. rw (take_all n s q)) (lt_or_ge n (length s)) in
    let g : sets l i (take n s) ≡ take i l ++ take n s ++ drop (i + length (take n s)) l = sets-eq (take n s) l i (omega (arith, k, e)) in
    f ∙ (rw k at g) ∙ append_assoc (take i l) (take n s) (drop (i + n) l)

-- nothing
pub put_none : (x : Out) → Put x [] x
put_none x = record { same = refl; moves = omega arith; leaves = refl }

-- the place moves by all of a text
module _ {x y : Out} (s : List ℕ) (same : y.bytes.ghost_name ≡ x.bytes.ghost_name) (moves : y.at ≡ x.at + length s) where
  -- where there is no room at all
  pub put_past : length x.bytes.now ≤ x.at → y.bytes.now ≡ x.bytes.now → Put x s y
  put_past h e = record { same = same; moves = moves; leaves = e ∙ sym (sets_past s x.bytes.now x.at h) }

  -- where there is some
  pub put_front : (n : ℕ) → n ≡ min (length s) (length x.bytes.now - x.at) → x.at < length x.bytes.now
      → y.bytes.now ≡ take x.at x.bytes.now ++ (take n s ++ drop (x.at + n) x.bytes.now) → Put x s y
  put_front n e h p = record { same = same; moves = moves; leaves = p ∙ sym (sets_front s x.bytes.now x.at n e h) }

-- one text behind another
module _ {x y z : Out} {s t : List ℕ} where
  pub then : Put x s y → Put y t z → Put x (s ++ t) z
  then p q = record {
    same = q.same ∙ p.same;
    moves = omega (arith, length-append s t, p.moves, q.moves);
    leaves = q.leaves ∙ (rw (p.leaves, p.moves) (sets_append s t x.bytes.now x.at));
  }

-- one byte more of a text
pub put_next : {x y z : Out} (s : List ℕ) (i : ℕ) → i < length s → Put x (take i s) y → Put y (get_or s i 0 ∷ []) z → Put x (take (i + 1) s) z
put_next s i h p q = rw (take_more s i 0 h) (then p q)

-- the text of one thing more, where each has a text
pub put_each : {A : Type 0} {x y z : Out} (text : A → List ℕ) (xs : List A) (i : ℕ) (d : A) → i < length xs → Put x (flat_map text (take i xs)) y
    → Put y (text (get_or xs i d)) z → Put x (flat_map text (take (i + 1) xs)) z
put_each text xs i d h p q = rw (take_more xs i d h, flat_map-append, append-nil) (then p q)
