-- Chained buckets find each native's next equal: the walk along a chain meets every greater native with the same string. And a count of 0 or
-- 1 says where a number stands. Assumes nothing.
use mathlib.Core.Bool.{Bool, true, cond}
use mathlib.Core.List.{List}
use mathlib.Core.Logic.{⊎_elim}
use mathlib.Core.Path.{◌≡◌, refl, sym, ap, ◌∙◌, subst}
use Prim.Native.Nat.{ℕ, ◌+◌, ◌%◌, ◌<◌, ◌≤◌}
use native.Mathlib.Nat.{eq-or-lt_of_le}
use native.Mathlib.Omega.{arith}
use lib.ListN.{get_or, length, set, take, replicate, get_or-replicate}
use Rattle.std.proofs.lemmas.List.{get_or-take, length-take}
use Rattle.std.specs.List.{count_by}
use Rattle.std.proofs.lemmas.List.Sums.{get_or-le-sum_by, sum_by_more_le}
use Rattle.bicycle_common.proofs.Ranges.{lt_or_ge, stored_at}
use Rattle.native_measurement.specs.Natives.{natives}
use Rattle.natives.specs.Kept.{kept}
use Rattle.natives.specs.Arrays.{at}
use Rattle.natives.specs.Chains.{buckets, bucket, Next, Heads}
use Rattle.natives.proofs.Kept.{kept_complete}

-- ---- the chains

-- a list that is filled from the back
pub stored_down : {A : Type 0} (P : ℕ → A → Type 0) (l : List A) (d : A) (k : ℕ) (v : A) → k < length l
    → ((t : ℕ) → k + 1 ≤ t → t < natives → P t (get_or l t d)) → P k v → (t : ℕ) → k ≤ t → t < natives → P t (get_or (set l k v) t d)
stored_down P l d k v hk h p t lo hi = stored_at (P t) l d t k v hk (λ e. rw e p) (λ e. h t (omega arith) hi)

next_self : (f : ℕ → ℕ) (k : ℕ) → k < natives → Next f (f k) k k
next_self f k h = record { low = omega arith; high = omega arith; none = λ m a b e. omega arith; meets = λ l. refl }

next_down : (f : ℕ → ℕ) (h k x : ℕ) → (f k ≡ h → ⊥) → Next f h (k + 1) x → Next f h k x
next_down f h k x ne p = record {
  low = omega (arith, p.low);
  high = p.high;
  none = λ m a b e. ⊎_elim (λ (q : k ≡ m). ne (ap f q ∙ e)) (λ (q : k < m). p.none m (omega arith) b e) (eq-or-lt_of_le a);
  meets = p.meets;
}

pub heads_more : (f : ℕ → ℕ) (head : List ℕ) (k : ℕ) → f k < length head → k < natives → Heads f head (k + 1) → Heads f (set head (f k) k) k
heads_more f head k l hk p h hh =
    stored_at (λ (x : ℕ). Next f h k x) head 0 h (f k) k l (λ e. rw e (next_self f k hk)) (λ e. next_down f h k _ (λ q. e (sym q)) (p h hh))

-- ---- the walk along a chain

-- none of the strings from n + 1 up to m - 1 is that of n
abbrev pub Clear : List ℕ → ℕ → ℕ → Type 0
Clear s n m = (t : ℕ) → n < t → t < m → at s t ≡ at s n → ⊥

pub clear_start : (s : List ℕ) (n x : ℕ) → Next (bucket s) (bucket s n) (n + 1) x → Clear s n x
clear_start s n x p t a b e = p.none t (omega arith) b (ap (λ (v : ℕ). v % 1021) e)

pub clear_more : (s : List ℕ) (n m x : ℕ) → Clear s n m → (at s m ≡ at s n → ⊥) → bucket s m ≡ bucket s n
    → Next (bucket s) (bucket s m) (m + 1) x → Clear s n x
clear_more s n m x c ne b p t lo hi e =
    ⊎_elim
    (λ (q : t < m). c t lo q e)
    (λ (q : m ≤ t). ⊎_elim
    (λ (r : m ≡ t). ne (ap (at s) r ∙ e))
    (λ (r : m < t). p.none t (omega arith) hi (ap (λ (v : ℕ). v % 1021) e ∙ sym b))
    (eq-or-lt_of_le q))
    (lt_or_ge t m)

pub clear_kept : (s : List ℕ) (n m : ℕ) → n < natives → natives ≤ m → Clear s n m → kept (at s) n ≡ true
clear_kept s n m h l c = kept_complete (at s) n (λ t a b e. c t a (omega arith) e)

next_end : (f : ℕ → ℕ) (h : ℕ) → Next f h natives natives
next_end f h = record { low = omega arith; high = omega arith; none = λ m a b e. omega arith; meets = λ l. omega arith }

pub heads_start : (f : ℕ → ℕ) → Heads f (replicate buckets natives) natives
heads_start f h l = subst (λ (x : ℕ). Next f h 540 x) (sym (get_or-replicate 1021 h 540 0 l)) (next_end f h)

-- ---- the count

-- p is true nowhere
pub none_there : (p : ℕ → Bool) (l : List ℕ) → count_by p l ≡ 0 → (i : ℕ) → i < length l → p (at l i) ≡ true → ⊥
none_there p l z i h t = omega (arith, z, rw t at (get_or-le-sum_by (λ (x : ℕ). cond (p x) 1 0) l i 0 h))

-- p is true at one place alone
pub one_there : (p : ℕ → Bool) (l : List ℕ) → count_by p l ≡ 1 → (i j : ℕ) → i < j → j < length l → p (at l i) ≡ true → p (at l j) ≡ true → ⊥
one_there p l z i j h hj a b =
    let f : ℕ → ℕ = λ x. cond (p x) 1 0 in
    let first = rw (get_or-take j l i 0 h, a) at (get_or-le-sum_by f (take j l) i 0 (omega (arith, length-take j l))) in
    let second = rw b at (sum_by_more_le f l j 0 hj) in
    omega (arith, z, first, second)
