-- Laws of sums, greatest values, tests and lists over the numbers below a bound. Assumes nothing.
use mathlib.Core.Path.{◌≡◌, refl, sym, ap, ap₂, subst, ◌∙◌}
use mathlib.Core.Logic.{⊎_elim, ◌⊎◌, inl, inr}
use mathlib.Core.Bool.{Bool, true, false, ◌&&◌, and-false}
use mathlib.Core.List.{List}
use Prim.Native.Nat.{ℕ, zero, suc, ◌+◌, ◌<◌, ◌≤◌, max}
use native.Mathlib.Nat.{not-suc-le-zero, le_of_suc-le-suc, eq-or-lt_of_le, add-zero, add-suc, suc-add, zero-add}
use native.Mathlib.Numerals.{add-one}
use native.Mathlib.Decide.{ℕ_discrete}
use native.Mathlib.Omega.{arith}
use lib.Dec.{T, eqb, ltb}
use lib.ListN.{length, get_or, set}
use lib.Seq.{ext_get_or, get_or-set_same, get_or-set_other}
use borrow.Author.Tests.{ltb-true, ltb-false, eqb-true, eqb-false}
use Rattle.bicycle_common.specs.Ranges.{sum, most, all_below, list_from, listed, in_turn}
use Rattle.bicycle_common.proofs.Tests.{left, right}

less_by : (m n : ℕ) (b : Bool) → ltb m n ≡ b → (m < n) ⊎ (n ≤ m)
less_by m n true e = inl (ltb-true m n e)
less_by m n false e = inr (ltb-false m n e)

pub lt_or_ge : (m n : ℕ) → (m < n) ⊎ (n ≤ m)
lt_or_ge m n = less_by m n (ltb m n) refl

-- ---- sums

pub sum_next : (n : ℕ) (f : ℕ → ℕ) → sum (n + 1) f ≡ sum n f + f n
unfolding sum
sum_next n f = rw add-one

pub sum_same : (n : ℕ) (f g : ℕ → ℕ) → ((j : ℕ) → j < n → f j ≡ g j) → sum n f ≡ sum n g
unfolding sum
sum_same zero f g h = refl
sum_same (suc n) f g h = ap₂ (λ (a b : ℕ). a + b) (sum_same n f g (λ j l. h j (omega arith))) (h n (omega arith))

-- n numbers of at most 1 sum to at most n
pub sum_le : (n : ℕ) (f : ℕ → ℕ) → ((j : ℕ) → j < n → f j ≤ 1) → sum n f ≤ n
unfolding sum
sum_le zero f h = omega arith
sum_le (suc n) f h = omega (arith, sum_le n f (λ j l. h j (omega arith)), h n (omega arith))

pub sum_zero : (n : ℕ) (f : ℕ → ℕ) → ((j : ℕ) → j < n → f j ≡ 0) → sum n f ≡ 0
unfolding sum
sum_zero zero f h = refl
sum_zero (suc n) f h = omega (arith, h n (omega arith), sum_zero n f (λ j l. h j (omega arith)))

pub sum_mono : (n : ℕ) (f g : ℕ → ℕ) → ((j : ℕ) → j < n → f j ≤ g j) → sum n f ≤ sum n g
unfolding sum
sum_mono zero f g h = omega arith
sum_mono (suc n) f g h = omega (arith, h n (omega arith), sum_mono n f g (λ j l. h j (omega arith)))

-- no term is greater, and term k is less
pub sum_less : (n : ℕ) (f g : ℕ → ℕ) (k : ℕ) → k < n → ((j : ℕ) → j < n → f j ≤ g j) → f k < g k → sum n f < sum n g
unfolding sum
sum_less zero f g k l h s = absurd (omega arith)
sum_less (suc n) f g k l h s = elim (ℕ_discrete k n) [
  | yes z ↦ omega (arith, ap f z, ap g z, sum_mono n f g (λ j l. h j (omega arith)))
  | no w ↦ omega (arith, h n (omega arith), sum_less n f g k (omega arith) (λ j l. h j (omega arith)) s)
]

-- term k is one more, and the others are the same
pub sum_more : (n : ℕ) (f g : ℕ → ℕ) (k : ℕ) → k < n → ((j : ℕ) → (j ≡ k → ⊥) → f j ≡ g j) → f k + 1 ≡ g k → sum n f + 1 ≡ sum n g
unfolding sum
sum_more zero f g k l h s = absurd (omega arith)
sum_more (suc n) f g k l h s = elim (ℕ_discrete k n) [
  | yes z ↦ omega (arith, ap f z, ap g z, sum_same n f g (λ j l. h j (omega arith)))
  | no w ↦ omega (arith, h n (λ z. w (sym z)), sum_more n f g k (omega arith) h s)
]

-- n numbers of at most 1, one of them 0, sum to less than n
pub sum_lacks : (n : ℕ) (f : ℕ → ℕ) (k : ℕ) → k < n → ((j : ℕ) → j < n → f j ≤ 1) → f k ≡ 0 → sum n f < n
unfolding sum
sum_lacks zero f k l h s = absurd (omega arith)
sum_lacks (suc n) f k l h s = elim (ℕ_discrete k n) [
  | yes z ↦ omega (arith, ap f z, sum_le n f (λ j l. h j (omega arith)))
  | no w ↦ omega (arith, h n (omega arith), sum_lacks n f k (omega arith) (λ j l. h j (omega arith)) s)
]

-- the first term apart
pub sum_first : (n : ℕ) (f : ℕ → ℕ) → sum (suc n) f ≡ f 0 + sum n (λ (j : ℕ). f (suc j))
unfolding sum
sum_first zero f = omega arith
sum_first (suc n) f = omega (arith, sum_first n f)

pub sum_terms_zero : (n : ℕ) (f : ℕ → ℕ) → sum n f ≡ 0 → (j : ℕ) → j < n → f j ≡ 0
unfolding sum
sum_terms_zero zero f e j h = absurd (not-suc-le-zero h)
sum_terms_zero (suc n) f e j h =
    ⊎_elim (λ (q : j ≡ n). rw q (omega arith)) (λ (q : j < n). sum_terms_zero n f (omega arith) j q) (eq-or-lt_of_le (le_of_suc-le-suc h))

-- a sum over 0 has a term over 0
pub sum_pos : (n : ℕ) (f : ℕ → ℕ) → 0 < sum n f → (j : ℕ) × (j < n) × (0 < f j)
unfolding sum
sum_pos zero f h = absurd (omega arith)
sum_pos (suc n) f h =
    ⊎_elim
    (λ (q : 0 < f n). (n, omega arith, q))
    (λ (q : f n ≤ 0). let r = sum_pos n f (omega arith) in (r.0, omega (arith, r.1), r.2))
    (lt_or_ge 0 (f n))

-- ---- the greatest value

pub most_none : (f : ℕ → ℕ) → most 0 f ≡ 0
unfolding most
most_none f = refl

pub most_next : (n : ℕ) (f : ℕ → ℕ) → most (n + 1) f ≡ max (most n f) (f n)
unfolding most
most_next n f = rw add-one

pub most_at : (n : ℕ) (f : ℕ → ℕ) (j : ℕ) → j < n → f j ≤ most n f
unfolding most
most_at zero f j h = absurd (not-suc-le-zero h)
most_at (suc n) f j h =
    ⊎_elim (λ (q : j ≡ n). omega (arith, ap f q)) (λ (q : j < n). omega (arith, most_at n f j q)) (eq-or-lt_of_le (le_of_suc-le-suc h))

pub most_le : (n : ℕ) (f : ℕ → ℕ) (b : ℕ) → ((j : ℕ) → j < n → f j ≤ b) → most n f ≤ b
unfolding most
most_le zero f b h = omega arith
most_le (suc n) f b h = omega (arith, h n (omega arith), most_le n f b (λ j l. h j (omega arith)))

-- ---- tests

pub all_below_law : (n : ℕ) (f : ℕ → Bool) → T (all_below n f) → (j : ℕ) → j < n → T (f j)
unfolding all_below
all_below_law zero f t j h = absurd (not-suc-le-zero h)
all_below_law (suc n) f t j h =
    ⊎_elim
    (λ (e : j ≡ n). subst (λ (k : ℕ). T (f k)) (sym e) (left (f n) (all_below n f) t))
    (λ (l : j < n). all_below_law n f (right (f n) (all_below n f) t) j l)
    (eq-or-lt_of_le (le_of_suc-le-suc h))

pub all_true : (n : ℕ) (f : ℕ → Bool) → ((j : ℕ) → j < n → f j ≡ true) → all_below n f ≡ true
unfolding all_below
all_true zero f h = refl
all_true (suc n) f h = rw (h n (omega arith)) (all_true n f (λ j l. h j (omega arith)))

pub all_false : (n : ℕ) (f : ℕ → Bool) (j : ℕ) → j < n → f j ≡ false → all_below n f ≡ false
unfolding all_below
all_false zero f j h e = absurd (not-suc-le-zero h)
all_false (suc n) f j h e =
    ⊎_elim
    (λ (q : j ≡ n). rw (← q, e))
    (λ (q : j < n). ap (λ (b : Bool). f n && b) (all_false n f j q e) ∙ and-false (f n))
    (eq-or-lt_of_le (le_of_suc-le-suc h))

pub all_same : (n : ℕ) (f g : ℕ → Bool) → ((j : ℕ) → j < n → f j ≡ g j) → all_below n f ≡ all_below n g
unfolding all_below
all_same zero f g h = refl
all_same (suc n) f g h = ap₂ ◌&&◌ (h n (omega arith)) (all_same n f g (λ j l. h j (omega arith)))

-- ---- lists

module _ {A : Type 0} where
  pub length_from : (f : ℕ → A) (i k : ℕ) → length (list_from f i k) ≡ k
  unfolding list_from
  length_from f i zero = refl
  length_from f i (suc k) = ap suc (length_from f (suc i) k)

  pub from_at : (f : ℕ → A) (d : A) (i k j : ℕ) → j < k → get_or (list_from f i k) j d ≡ f (i + j)
  unfolding list_from
  from_at f d i zero j h = absurd (not-suc-le-zero h)
  from_at f d i (suc k) zero h = ap f (sym (add-zero i))
  from_at f d i (suc k) (suc j) h = from_at f d (suc i) k j (le_of_suc-le-suc h) ∙ ap f (suc-add i j ∙ sym (add-suc i j))

  pub listed_at : (f : ℕ → A) (d : A) (n j : ℕ) → j < n → get_or (listed f n) j d ≡ f j
  listed_at f d n j h = from_at f d 0 n j h ∙ ap f (zero-add j)

  -- a list of n elements is known by each of them
  pub listed_all : (f : ℕ → A) (d : A) (l : List A) (n : ℕ) → length l ≡ n → ((j : ℕ) → j < n → get_or l j d ≡ f j) → l ≡ listed f n
  listed_all f d l n e h =
      ext_get_or d l (listed f n) (e ∙ sym (length_from f 0 n))
      (λ j q. let k : j < n = omega (arith, e) in h j k ∙ sym (listed_at f d n j k))

  -- what a place holds after a store at k
  pub stored_at : (P : A → Type 0) (l : List A) (d : A) (j k : ℕ) (v : A) → k < length l → (j ≡ k → P v) → ((j ≡ k → ⊥) → P (get_or l j d))
      → P (get_or (set l k v) j d)
  stored_at P l d j k v hk here other = go (eqb j k) refl
    where
      go : (b : Bool) → eqb j k ≡ b → P (get_or (set l k v) j d)
      go true e = let q = eqb-true j k e in rw (q, get_or-set_same l k v d hk) (here q)
      go false e = let q = eqb-false j k e in rw (get_or-set_other l k j v d q) (other q)

  -- a list that is filled from the front: what holds at each place below k holds below k + 1 after the store at k
  pub stored_more : (P : ℕ → A → Type 0) (l : List A) (d : A) (k : ℕ) (v : A) → k < length l
      → ((t : ℕ) → t < k → P t (get_or l t d)) → P k v → (t : ℕ) → t < k + 1 → P t (get_or (set l k v) t d)
  stored_more P l d k v hk h p t ht = stored_at (P t) l d t k v hk (λ e. rw e p) (λ e. h t (omega arith))

  -- ---- steps in turn

  pub in_turn_none : (step : ℕ → A → A) (s : A) → in_turn 0 step s ≡ s
  unfolding in_turn
  in_turn_none step s = refl

  pub in_turn_next : (n : ℕ) (step : ℕ → A → A) (s : A) → in_turn (n + 1) step s ≡ step n (in_turn n step s)
  unfolding in_turn
  in_turn_next n step s = ap (λ (k : ℕ). in_turn k step s) (add-one n)

  pub in_turn_same : (n : ℕ) (step other : ℕ → A → A) (s : A) → ((j : ℕ) → j < n → (a : A) → step j a ≡ other j a)
      → in_turn n step s ≡ in_turn n other s
  unfolding in_turn
  in_turn_same zero step other s h = refl
  in_turn_same (suc n) step other s h =
      ap (step n) (in_turn_same n step other s (λ j l. h j (omega arith))) ∙ h n (omega arith) (in_turn n other s)

  -- what each step leads from one number to the next holds at the end
  pub in_turn_all : (P : ℕ → A → Type 0) (n : ℕ) (step : ℕ → A → A) (s : A) → ((j : ℕ) → j < n → (a : A) → P j a → P (j + 1) (step j a)) → P 0 s
      → P n (in_turn n step s)
  unfolding in_turn
  in_turn_all P zero step s h p = p
  in_turn_all P (suc n) step s h p =
      subst (λ (k : ℕ). P k (step n (in_turn n step s))) (add-one n)
      (h n (omega arith) (in_turn n step s) (in_turn_all P n step s (λ j l. h j (omega arith)) p))
