-- Laws of the walk: its places one by one, and that a good walk has a valid entry of the right depth at every place. Assumes nothing.
use mathlib.Core.Path.{◌≡◌, refl, sym, ap, subst, ◌∙◌}
use mathlib.Core.Bool.{Bool, true, false, cond, ◌&&◌, and-eq-true_iff, and-false, true≢false}
use Prim.Native.Nat.{ℕ, ◌+◌, ◌-◌, ◌^◌, ◌≤◌, ◌<◌}
use native.Mathlib.Numerals.{add-one}
use native.Mathlib.Omega.{arith}
use native.Mathlib.Decide.{ℕ_discrete, dec_lt}
use lib.Dec.{T, eqb, ltb}
use borrow.Author.Tests.{lt-ltb, le-ltb, eq-eqb, ne_eqb, eqb-true, ltb-true}
use Rattle.bicycle_common.specs.declared.Pauli.{Pauli}
use Rattle.bicycle_common.specs.declared.Pauli.TheVariants.{X, Z, Y}
use Rattle.bicycle_common.specs.Ranges.{all_below}
use Rattle.bicycle_common.proofs.Ranges.{all_below_law, all_true, all_false}
use Rattle.pauli_string.specs.Strings.{has_pivot}
use Rattle.pauli_string.proofs.Places.{set_letter_lt}
use Rattle.pauli_string.proofs.Range.{four_pow}
use Rattle.native_measurement.specs.Natives.{natives}
use Rattle.natives.specs.Kept.{kept}
use Rattle.table.specs.Entries.{depth, field, leads, valid, valid_by, named}
use Rattle.lookup.specs.Walks.{stands, next, down, good, sound, candidate, better, best, none_has, all_sound, missing, judged, winner}

-- ---- valid entries

-- a value of another depth does not stand, nor does one that is not valid
pub stands_other : (q : ℕ) (f : ℕ → ℕ) (v d x : ℕ) → (depth v ≡ d → ⊥) → stands q f v d x ≡ false
stands_other q f v d x h = rw (ne_eqb (depth v) d h)

pub stands_invalid : (q : ℕ) (f : ℕ → ℕ) (v d x : ℕ) → valid q f v x ≡ false → stands q f v d x ≡ false
stands_invalid q f v d x z = ap (λ (b : Bool). eqb (depth v) d && b) z ∙ and-false (eqb (depth v) d)

holds : (b : Bool) → T b → b ≡ true
holds true t = refl
holds false t = absurd t

pub all_hold : (n : ℕ) (s : ℕ → Bool) → all_below n s ≡ true → (j : ℕ) → j < n → s j ≡ true
all_hold n s z j l = holds (s j) (all_below_law n s (subst T (sym z) tt) j l)

chosen : (a b : Bool) → cond a b false ≡ true → (a ≡ true) × (b ≡ true)
chosen true b e = (refl, e)
chosen false b e = absurd (subst (λ (c : Bool). T c) (sym e) tt)

-- what a valid entry of depth d for x says of the native that it names
pub record Valid (q : ℕ) (f : ℕ → ℕ) (v d x : ℕ) : Type 0 where
  pub deep : depth v ≡ d
  pub some : 0 < field v
  pub below : named v < natives
  pub is_kept : kept f (named v) ≡ true
  pub fits : cond (eqb d 0) (eqb (f (named v)) x) (has_pivot q (f (named v))) ≡ true

pub stands_valid : (q : ℕ) (f : ℕ → ℕ) (v d x : ℕ) → stands q f v d x ≡ true → Valid q f v d x
stands_valid q f v d x e =
    let s = (and-eq-true_iff (eqb (depth v) d) (valid q f v x)).0 e in
    let z : depth v ≡ d = eqb-true (depth v) d s.0 in
    let c = chosen (ltb 0 (field v) && ltb (field v) (natives + 1)) (valid_by q f v x (named v)) s.1 in
    let r = (and-eq-true_iff (ltb 0 (field v)) (ltb (field v) (natives + 1))).0 c.0 in
    let k = (and-eq-true_iff (kept f (named v)) (cond (eqb (depth v) 0) (eqb (f (named v)) x) (has_pivot q (f (named v))))).0 c.1 in
    let low : 0 < field v = ltb-true 0 (field v) r.0 in
    let high : field v < natives + 1 = ltb-true (field v) (natives + 1) r.1 in
    record {
      deep = z;
      some = low;
      below = omega arith;
      is_kept = k.0;
      fits = subst (λ (j : ℕ). cond (eqb j 0) (eqb (f (named v)) x) (has_pivot q (f (named v))) ≡ true) z k.1;
    }

-- ---- places

module _ (q : ℕ) (f e : ℕ → ℕ) (p : ℕ) where
  pub down_none : down q f e p 0 ≡ p
  unfolding down
  down_none = refl

  down_next : (k : ℕ) → down q f e p (k + 1) ≡ leads q f (down q f e p k) (named (e (down q f e p k)))
  unfolding down next
  down_next k = rw add-one

  -- from x at place k, of which v is the value, the rotation that v names leads to the next place
  pub down_step : (x v k : ℕ) → x ≡ down q f e p k → v ≡ e x → leads q f x (named v) ≡ down q f e p (k + 1)
  down_step x v k a b = ap (λ (w : ℕ). leads q f x (named w)) b ∙ ap (λ (y : ℕ). leads q f y (named (e y))) a ∙ sym (down_next k)

  -- place k stands
  abbrev pub At : ℕ → Bool
  At k = stands q f (e (down q f e p k)) (depth (e p) - k) (down q f e p k)

  pub good_at : good q f e p ≡ true → (k : ℕ) → k ≤ depth (e p) → At k ≡ true
  unfolding good
  good_at g k l = all_hold (depth (e p) + 1) At g k (omega arith)

  pub good_all : ((k : ℕ) → k ≤ depth (e p) → At k ≡ true) → good q f e p ≡ true
  unfolding good
  good_all h = all_true (depth (e p) + 1) At (λ k l. h k (omega arith))

  pub good_not : (k : ℕ) → k ≤ depth (e p) → At k ≡ false → good q f e p ≡ false
  unfolding good
  good_not k l h = all_false (depth (e p) + 1) At k (omega arith) h

  -- the last place decides where all before it stand
  pub good_last : ((k : ℕ) → k < depth (e p) → At k ≡ true) → good q f e p ≡ At (depth (e p))
  good_last h = go (At (depth (e p))) refl
    where
      go : (b : Bool) → At (depth (e p)) ≡ b → good q f e p ≡ At (depth (e p))
      go false z = good_not (depth (e p)) (omega arith) z ∙ sym z
      go true z = good_all (λ k l. upto k l) ∙ sym z
        where
          upto : (k : ℕ) → k ≤ depth (e p) → At k ≡ true
          upto k l = elim (ℕ_discrete k (depth (e p))) [ yes w ↦ ap At w ∙ z | no w ↦ h k (omega arith) ]

  -- ---- sound strings

  pub sound_none : e p ≡ 0 → sound q f e p ≡ true
  unfolding sound
  sound_none z = rw (eq-eqb (e p) 0 z)

  -- a sound string with an entry has a good walk
  pub sound_some : (e p ≡ 0 → ⊥) → sound q f e p ≡ good q f e p
  unfolding sound
  sound_some h = rw (ne_eqb (e p) 0 h)

-- ---- the better of two strings

module _ (e : ℕ → ℕ) (a b : ℕ) where
  pub better_second : e a ≡ 0 → better e a b ≡ b
  unfolding better
  better_second z = rw (eq-eqb (e a) 0 z)

  module _ (h : e a ≡ 0 → ⊥) where
    pub better_first : e b ≡ 0 → better e a b ≡ a
    unfolding better
    better_first z = rw (ne_eqb (e a) 0 h, eq-eqb (e b) 0 z)

    pub better_fewer : (e b ≡ 0 → ⊥) → depth (e b) < depth (e a) → better e a b ≡ b
    unfolding better
    better_fewer k l = rw (ne_eqb (e a) 0 h, ne_eqb (e b) 0 k, lt-ltb (depth (e b)) (depth (e a)) l)

    pub better_equal : (e b ≡ 0 → ⊥) → depth (e a) ≤ depth (e b) → better e a b ≡ a
    unfolding better
    better_equal k l = rw (ne_eqb (e a) 0 h, ne_eqb (e b) 0 k, le-ltb (depth (e b)) (depth (e a)) l)

  -- nothing has fewer rotations than a native
  pub better_native : (e a ≡ 0 → ⊥) → depth (e a) ≡ 0 → better e a b ≡ a
  better_native h z = elim (ℕ_discrete (e b) 0) [ yes w ↦ better_first h w | no k ↦ better_equal h k (omega arith) ]

  chosen_of : (P : ℕ → Type 0) (x y z : Bool) → P a → P b → P (cond x b (cond y a (cond z b a)))
  chosen_of P true y z ha hb = hb
  chosen_of P false true z ha hb = ha
  chosen_of P false false true ha hb = hb
  chosen_of P false false false ha hb = ha

  -- it is one of the two
  pub better_of : (P : ℕ → Type 0) → P a → P b → P (better e a b)
  unfolding better
  better_of P ha hb = chosen_of P (eqb (e a) 0) (eqb (e b) 0) (ltb (depth (e b)) (depth (e a))) ha hb

  -- where one of the two has an entry, it has one, and no more rotations
  better_least_first : (e a ≡ 0 → ⊥) → (e (better e a b) ≡ 0 → ⊥) × (depth (e (better e a b)) ≤ depth (e a))
  better_least_first h = elim (ℕ_discrete (e b) 0) [
    | yes z ↦ subst Least (sym (better_first h z)) (h, omega arith)
    | no k ↦ elim (dec_lt (depth (e b)) (depth (e a))) [
      | yes l ↦ subst Least (sym (better_fewer h k l)) (k, omega arith)
      | no g ↦ subst Least (sym (better_equal h k (omega arith))) (h, omega arith)
    ]
  ]
    where
      Least : ℕ → Type 0
      Least x = (e x ≡ 0 → ⊥) × (depth (e x) ≤ depth (e a))

  better_least_second : (e b ≡ 0 → ⊥) → (e (better e a b) ≡ 0 → ⊥) × (depth (e (better e a b)) ≤ depth (e b))
  better_least_second k = elim (ℕ_discrete (e a) 0) [
    | yes z ↦ subst Least (sym (better_second z)) (k, omega arith)
    | no h ↦ elim (dec_lt (depth (e b)) (depth (e a))) [
      | yes l ↦ subst Least (sym (better_fewer h k l)) (k, omega arith)
      | no g ↦ subst Least (sym (better_equal h k (omega arith))) (h, omega arith)
    ]
  ]
    where
      Least : ℕ → Type 0
      Least x = (e x ≡ 0 → ⊥) × (depth (e x) ≤ depth (e b))

-- the best of three is one of them
pub best_of : (e : ℕ → ℕ) (x z y : ℕ) (P : ℕ → Type 0) → P x → P z → P y → P (best e x z y)
best_of e x z y P hx hz hy = better_of e (better e x z) y P (better_of e x z P hx hz) hy

-- where one of the three has an entry, it has one, and no more rotations
module _ (e : ℕ → ℕ) (x z y : ℕ) where
  abbrev Least : ℕ → ℕ → Type 0
  Least c w = (e w ≡ 0 → ⊥) × (depth (e w) ≤ depth (e c))

  through : (c : ℕ) → Least c (better e x z) → Least c (best e x z y)
  through c h = let k = better_least_first e (better e x z) y h.0 in (k.0, omega (arith, k.1, h.1))

  pub best_least_first : (e x ≡ 0 → ⊥) → Least x (best e x z y)
  best_least_first h = through x (better_least_first e x z h)

  pub best_least_second : (e z ≡ 0 → ⊥) → Least z (best e x z y)
  best_least_second h = through z (better_least_second e x z h)

  pub best_least_third : (e y ≡ 0 → ⊥) → Least y (best e x z y)
  best_least_third h = better_least_second e (better e x z) y h

  -- where one of them has an entry, so has the best
  best_some : none_has e x z y ≡ false → e (best e x z y) ≡ 0 → ⊥
  best_some h = elim (ℕ_discrete (e x) 0) [
    | no k ↦ (best_least_first k).0
    | yes a ↦ elim (ℕ_discrete (e z) 0) [
      | no k ↦ (best_least_second k).0
      | yes b ↦ elim (ℕ_discrete (e y) 0) [
        | no k ↦ (best_least_third k).0
        | yes c ↦ absurd (true≢false (sym (all_none a b c) ∙ h))
      ]
    ]
  ]
    where
      all_none : e x ≡ 0 → e z ≡ 0 → e y ≡ 0 → none_has e x z y ≡ true
      all_none a b c = rw (eq-eqb (e x) 0 a, eq-eqb (e z) 0 b, eq-eqb (e y) 0 c)

-- ---- what is looked up

pub candidate_string : (q p : ℕ) (l : Pauli) → 0 < q → p < 4 ^ q → candidate q p l < 4 ^ q
candidate_string q p l positive h =
    subst (λ (n : ℕ). candidate q p l < n) (sym (four_pow q)) (set_letter_lt q p 0 l positive (subst (λ (n : ℕ). p < n) (four_pow q) h))

module _ (q : ℕ) (f e : ℕ → ℕ) where
  -- with all three candidates sound, and one of them with an entry, the best has a good walk
  best_good : (x z y : ℕ) → none_has e x z y ≡ false → all_sound q f e x z y ≡ true → good q f e (best e x z y) ≡ true
  best_good x z y some h =
      let w = best e x z y in
      let a = (and-eq-true_iff (sound q f e x && sound q f e z) (sound q f e y)).0 h in
      let b = (and-eq-true_iff (sound q f e x) (sound q f e z)).0 a.0 in
      sym (sound_some q f e w (best_some e x z y some)) ∙ best_of e x z y (λ (v : ℕ). sound q f e v ≡ true) b.0 b.1 a.1

  -- what is judged has a good walk
  pub winner_good : (any : Bool) (p : ℕ) → missing any q e p ≡ false → judged any q f e p ≡ true → good q f e (winner any q e p) ≡ true
  winner_good true p some h = best_good (candidate q p X) (candidate q p Z) (candidate q p Y) some h
  winner_good false p some h = h
