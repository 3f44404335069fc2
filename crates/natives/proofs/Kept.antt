-- The test of a kept native says what it means, and of the natives with one string exactly one is kept: the greatest. By a search from the
-- top. Assumes nothing.
use mathlib.Core.Bool.{Bool, true, false, not, ◌&&◌, cond}
use mathlib.Core.Logic.{⊎_elim}
use mathlib.Core.Path.{◌≡◌, refl, sym, ap, ap₂, subst, ◌∙◌}
use Prim.Native.Nat.{ℕ, zero, suc, ◌<◌, ◌≤◌}
use native.Mathlib.Nat.{eq-or-lt_of_le, le_antisymm}
use native.Mathlib.Omega.{arith, by_contra}
use lib.Dec.{T, eqb, ltb}
use borrow.Author.Tests.{lt-ltb, eq-eqb, ne_eqb, ltb-true, eqb-true, eqb-false}
use Rattle.bicycle_common.proofs.Ranges.{all_true, all_false, all_same, length_from, listed_at, listed_all}
use Rattle.native_measurement.specs.Natives.{natives}
use Rattle.std.proofs.Common.{Option, None, Some}
use Rattle.std.specs.Option.{unwrap_or}
use Rattle.natives.specs.Kept.{beats, kept_by, kept, Kept, kept_below, LastWith, kept_for, Keeper}
use Rattle.natives.specs.Arrays.{flags}

-- ---- the test

beaten : (f : ℕ → ℕ) (m n : ℕ) → n < m → f m ≡ f n → beats f m n ≡ true
beaten f m n h e = ap₂ ◌&&◌ (lt-ltb n m h) (eq-eqb (f m) (f n) e)

unbeaten : (f : ℕ → ℕ) (m n : ℕ) → (n < m → f m ≡ f n → ⊥) → not (beats f m n) ≡ true
unbeaten f m n h = go (ltb n m) (eqb (f m) (f n)) refl refl
  where
    go : (a b : Bool) → ltb n m ≡ a → eqb (f m) (f n) ≡ b → not (a && b) ≡ true
    go true true ea eb = absurd (h (ltb-true n m ea) (eqb-true (f m) (f n) eb))
    go true false ea eb = refl
    go false b ea eb = refl

pub not_kept : (f : ℕ → ℕ) (n m : ℕ) → n < m → m < natives → f m ≡ f n → kept f n ≡ false
unfolding kept_by
not_kept f n m h hm e = all_false natives (λ (m : ℕ). not (beats f m n)) m hm (ap not (beaten f m n h e))

pub kept_complete : (f : ℕ → ℕ) (n : ℕ) → Kept f n → kept f n ≡ true
unfolding kept_by
kept_complete f n h = all_true natives (λ (m : ℕ). not (beats f m n)) (λ m hm. unbeaten f m n (λ l e. h m l hm e))

pub kept_sound : (f : ℕ → ℕ) (n : ℕ) → kept f n ≡ true → Kept f n
kept_sound f n t m l hm e = subst T (sym t ∙ not_kept f n m l hm e) tt

-- it reads the strings of the natives alone
pub kept_same : (f g : ℕ → ℕ) → ((m : ℕ) → m < natives → f m ≡ g m) → (n : ℕ) → n < natives → kept f n ≡ kept g n
unfolding kept_by
kept_same f g h n hn =
    all_same natives (λ (m : ℕ). not (beats f m n)) (λ (m : ℕ). not (beats g m n))
    (λ m hm. ap₂ (λ (a b : ℕ). not (ltb n m && eqb a b)) (h m hm) (h n hn))

pub flags_same : (f g : ℕ → ℕ) → ((m : ℕ) → m < natives → f m ≡ g m) → flags f ≡ flags g
flags_same f g h =
    listed_all (kept g) false (flags f) natives (length_from (kept f) 0 natives)
    (λ n hn. listed_at (kept f) false natives n hn ∙ kept_same f g h n hn)

-- ---- the greatest of those with one string

keeper_here : (f : ℕ → ℕ) (n k : ℕ) → k < natives → f k ≡ f n → ((m : ℕ) → k < m → m < natives → f m ≡ f n → ⊥) → Keeper f n k
keeper_here f n k h e above = record {
  below = h;
  same = e;
  is_kept = kept_complete f k (λ m l hm q. above m l hm (q ∙ e));
  greatest = λ m hm q. by_contra m k (λ l. above m l hm q);
  only = λ m hm q t. le_antisymm (by_contra m k (λ l. above m l hm q)) (by_contra k m (λ l. kept_sound f m t k l h (e ∙ sym q)));
}

-- the search from the top: none from k on has the string of n
keeper_below : (f : ℕ → ℕ) (n k : ℕ) → k ≤ natives → n < k → ((m : ℕ) → k ≤ m → m < natives → f m ≡ f n → ⊥) → Keeper f n (kept_below f (f n) k)
unfolding kept_below
keeper_below f n zero h l above = absurd (omega arith)
keeper_below f n (suc k) h l above = go (λ l above. keeper_below f n k (omega arith) l above) (eqb (f k) (f n)) refl
  where
    go : (n < k → ((m : ℕ) → k ≤ m → m < natives → f m ≡ f n → ⊥) → Keeper f n (kept_below f (f n) k)) → (b : Bool) → eqb (f k) (f n) ≡ b
        → Keeper f n (cond b k (kept_below f (f n) k))
    go rest true e = keeper_here f n k (omega arith) (eqb-true (f k) (f n) e) (λ m q hm. above m q hm)
    go rest false e =
        let ne : f k ≡ f n → ⊥ = eqb-false (f k) (f n) e in
        rest
        (⊎_elim (λ (q : n ≡ k). absurd (ne (ap f (sym q)))) (λ (q : n < k). q) (eq-or-lt_of_le (omega arith)))
        (λ m q hm p. ⊎_elim (λ (r : k ≡ m). ne (ap f r ∙ p)) (λ (r : k < m). above m r hm p) (eq-or-lt_of_le q))

-- the number kept for a native's string keeps that string
pub keeper_for : (f : ℕ → ℕ) (n : ℕ) → n < natives → Keeper f n (kept_for f (f n))
keeper_for f n h = keeper_below f n natives (omega arith) h (λ m a b e. absurd (omega arith))

-- every native has a keeper: exactly one native is kept for its string, and it is the greatest
pub keeper : (f : ℕ → ℕ) (n : ℕ) → n < natives → (k : ℕ) × Keeper f n k
keeper f n h = (kept_for f (f n), keeper_for f n h)

-- what is kept for x has the string x
kept_below_string : (f : ℕ → ℕ) (x k : ℕ) → kept_below f x k < natives → f (kept_below f x k) ≡ x
unfolding kept_below
kept_below_string f x zero h = absurd (omega arith)
kept_below_string f x (suc k) h = go (λ q. kept_below_string f x k q) (eqb (f k) x) refl h
  where
    go : (kept_below f x k < natives → f (kept_below f x k) ≡ x) → (b : Bool) → eqb (f k) x ≡ b → cond b k (kept_below f x k) < natives
        → f (cond b k (kept_below f x k)) ≡ x
    go rest true e q = eqb-true (f k) x e
    go rest false e q = rest q

pub kept_for_string : (f : ℕ → ℕ) (x : ℕ) → kept_for f x < natives → f (kept_for f x) ≡ x
kept_for_string f x h = kept_below_string f x natives h

-- what the search finds: nothing where no string is x, and else the last place of x
kept_below_none : (f : ℕ → ℕ) (x k : ℕ) → ((m : ℕ) → m < k → f m ≡ x → ⊥) → kept_below f x k ≡ natives
unfolding kept_below
kept_below_none f x zero h = refl
kept_below_none f x (suc k) h =
    rw (ne_eqb (f k) x (h k (omega arith))) (kept_below_none f x k (λ m l. h m (omega arith)))

kept_below_last : (f : ℕ → ℕ) (x k i : ℕ) → i < k → f i ≡ x → ((m : ℕ) → i < m → m < k → f m ≡ x → ⊥) → kept_below f x k ≡ i
unfolding kept_below
kept_below_last f x zero i l e h = absurd (omega arith)
kept_below_last f x (suc k) i l e h =
    ⊎_elim
    (λ (q : i ≡ k). let d : f k ≡ x = ap f (sym q) ∙ e in rw (eq-eqb (f k) x d) (sym q))
    (λ (q : i < k). rw (ne_eqb (f k) x (h k q (omega arith))) (kept_below_last f x k i q e (λ m a b. h m a (omega arith))))
    (eq-or-lt_of_le (omega arith))

pub last_kept : (f : ℕ → ℕ) (x : ℕ) (o : Option ℕ) → LastWith f x o → unwrap_or o natives ≡ kept_for f x
last_kept f x None h = sym (kept_below_none f x natives h)
last_kept f x (Some k) h = sym (kept_below_last f x natives k h.0 h.1 h.2)
