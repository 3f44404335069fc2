-- A lookup reads only the strings of the natives: two functions that agree on these answer the same. A walk that is not good is left at its
-- first bad place, and up to there both see the same. Assumes nothing.
use mathlib.Core.Path.{◌≡◌, refl, sym, ap, ap₂, ◌∙◌}
use mathlib.Core.Bool.{Bool, true, false, cond, ◌&&◌, and-eq-true_iff, and-false}
use mathlib.Core.List.{List}
use Prim.Native.Nat.{ℕ, zero, suc, ◌+◌, ◌-◌, ◌*◌, ◌≤◌, ◌<◌}
use native.Mathlib.Omega.{arith}
use lib.Dec.{eqb, ltb}
use borrow.Author.Tests.{ltb-true}
use Rattle.bicycle_common.specs.declared.Pauli.TheVariants.{X, Z, Y}
use Rattle.bicycle_common.specs.Ranges.{all_below}
use Rattle.bicycle_common.specs.declared.Refusal.TheVariants.{NoEntry, BadEntry, Room}
use Rattle.bicycle_common.proofs.Ranges.{length_from, listed_at, listed_all}
use Rattle.pauli_string.specs.Strings.{has_pivot, rotate}
use Rattle.native_measurement.specs.Natives.{natives}
use Rattle.natives.proofs.Kept.{kept_same}
use Rattle.table.specs.Entries.{depth, field, valid, valid_by, named}
use Rattle.lookup.specs.Walks.{stands, next, down, good, rotation_at, rotations, sound, candidate, missing, judged, winner}
use Rattle.lookup.specs.Answers.{Lookup, refusing, plan_by, found, sought}
use Rattle.lookup.proofs.Walks.{stands_valid, At, all_hold, good_at, winner_good}

-- two tests that agree at each number below which the first holds everywhere
all_led : (n : ℕ) (s t : ℕ → Bool) → ((k : ℕ) → k < n → ((j : ℕ) → j < k → s j ≡ true) → s k ≡ t k) → all_below n s ≡ all_below n t
unfolding all_below
all_led zero s t h = refl
all_led (suc n) s t h = go (all_below n s) refl (all_led n s t (λ k l a. h k (omega arith) a))
  where
    go : (b : Bool) → all_below n s ≡ b → all_below n s ≡ all_below n t → (s n && all_below n s) ≡ (t n && all_below n t)
    go true z same = ap₂ ◌&&◌ (h n (omega arith) (all_hold n s z)) same
    go false z same =
        ap (λ (b : Bool). s n && b) z ∙ and-false (s n) ∙ sym (ap (λ (b : Bool). t n && b) (sym same ∙ z) ∙ and-false (t n))

module _ (q : ℕ) (f g : ℕ → ℕ) (h : (n : ℕ) → n < natives → f n ≡ g n) where
  valid_same : (v x : ℕ) → valid q f v x ≡ valid q g v x
  valid_same v x = go (ltb 0 (field v) && ltb (field v) (natives + 1)) refl
    where
      go : (b : Bool) → (ltb 0 (field v) && ltb (field v) (natives + 1)) ≡ b → cond b (valid_by q f v x (named v)) false ≡ cond b (valid_by q g v x (named v)) false
      go false z = refl
      go true z =
          let r = (and-eq-true_iff (ltb 0 (field v)) (ltb (field v) (natives + 1))).0 z in
          let l : named v < natives = omega (arith, ltb-true 0 (field v) r.0, ltb-true (field v) (natives + 1) r.1) in
          ap₂ (λ (k : Bool) (y : ℕ). k && cond (eqb (depth v) 0) (eqb y x) (has_pivot q y)) (kept_same f g h (named v) l) (h (named v) l)

  module _ (e : ℕ → ℕ) (p : ℕ) where
    -- as far as every place stands, both walks are the same
    down_same : (k : ℕ) → ((j : ℕ) → j < k → At q f e p j ≡ true) → down q f e p k ≡ down q g e p k
    unfolding down next
    down_same zero s = refl
    down_same (suc k) s =
        let x = down q f e p k in
        let v = stands_valid q f (e x) (depth (e p) - k) x (s k (omega arith)) in
        ap (rotate q x) (h (named (e x)) v.below)
        ∙ ap (λ (y : ℕ). rotate q y (g (named (e y)))) (down_same k (λ j l. s j (omega arith)))

    at_same : (k : ℕ) → ((j : ℕ) → j < k → At q f e p j ≡ true) → At q f e p k ≡ At q g e p k
    at_same k s =
        ap (λ (x : ℕ). stands q f (e x) (depth (e p) - k) x) (down_same k s)
        ∙ ap (λ (b : Bool). eqb (depth (e (down q g e p k))) (depth (e p) - k) && b) (valid_same (e (down q g e p k)) (down q g e p k))

    good_same : good q f e p ≡ good q g e p
    unfolding good
    good_same = all_led (depth (e p) + 1) (At q f e p) (At q g e p) (λ k l s. at_same k s)

    module _ (ok : good q f e p ≡ true) where
      place_same : (k : ℕ) → k ≤ depth (e p) → down q f e p k ≡ down q g e p k
      place_same k l = down_same k (λ j m. good_at q f e p ok j (omega arith))

      rotations_same : rotations q f e p ≡ rotations q g e p
      rotations_same =
          listed_all (rotation_at q g e p) 0 (rotations q f e p) (depth (e p)) (length_from (rotation_at q f e p) 0 (depth (e p)))
          (λ i l. listed_at (rotation_at q f e p) 0 (depth (e p)) i l ∙ ap (λ (x : ℕ). named (e x)) (place_same (depth (e p) - 1 - i) (omega arith)))

      found_same : (room : ℕ) → found q f e p room ≡ found q g e p room
      found_same room =
          ap (λ (o : Lookup). cond (ltb room (2 * depth (e p))) (refusing (Room (2 * depth (e p)))) o)
          (ap₂ (λ (x : ℕ) (ns : List ℕ). plan_by x (named (e x)) (depth (e p)) p ns) (place_same (depth (e p)) (omega arith)) rotations_same)

    sound_same : sound q f e p ≡ sound q g e p
    unfolding sound
    sound_same = ap (λ (b : Bool). cond (eqb (e p) 0) true b) good_same

  judged_same : (e : ℕ → ℕ) (any : Bool) (p : ℕ) → judged any q f e p ≡ judged any q g e p
  judged_same e true p =
      ap₂ ◌&&◌ (ap₂ ◌&&◌ (sound_same e (candidate q p X)) (sound_same e (candidate q p Z))) (sound_same e (candidate q p Y))
  judged_same e false p = good_same e p

  pub sought_same : (e : ℕ → ℕ) (any : Bool) (p room : ℕ) → sought q f e any p room ≡ sought q g e any p room
  sought_same e any p room = by_missing (missing any q e p) refl
    where
      w : ℕ
      w = winner any q e p

      by_judged : (b : Bool) → missing any q e p ≡ false → judged any q f e p ≡ b
          → cond b (found q f e w room) (refusing BadEntry) ≡ cond b (found q g e w room) (refusing BadEntry)
      by_judged true some z = found_same e w (winner_good q f e any p some z) room
      by_judged false some z = refl

      by_missing : (b : Bool) → missing any q e p ≡ b
          → cond b (refusing NoEntry) (cond (judged any q f e p) (found q f e w room) (refusing BadEntry))
          ≡ cond b (refusing NoEntry) (cond (judged any q g e p) (found q g e w room) (refusing BadEntry))
      by_missing true z = refl
      by_missing false z =
          by_judged (judged any q f e p) z refl ∙ ap (λ (b : Bool). cond b (found q g e w room) (refusing BadEntry)) (judged_same e any p)
