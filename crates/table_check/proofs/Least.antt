-- The lowest number with a property, below an end that sinks as more is looked at. Assumes nothing.
use mathlib.Core.Path.{◌≡◌, sym, subst}
use Prim.Native.Nat.{ℕ, ◌+◌, ◌<◌, ◌≤◌, min}
use native.Mathlib.Omega.{arith}
use native.Mathlib.Decide.{ℕ_discrete, dec_lt}
use Rattle.table_check.specs.Tests.{Least, By, Blames, Blamed}

-- a property that says the same
pub least_same : (M N : ℕ → Type 0) (end r : ℕ) → ((p : ℕ) → M p → N p) → ((p : ℕ) → N p → (M p → ⊥) → ⊥) → Least M end r → Least N end r
least_same M N end r to from a = record { within = a.within; found = λ l. to r (a.found l); clear = λ p l n. from p n (a.clear p l) }

-- by one number more
by_more : (N : ℕ → ℕ → Type 0) (i end r s : ℕ) → Least (By N i) end r → Least (N i) r s → Least (By N (i + 1)) end s
by_more N i end r s a b = record { within = omega (arith, a.within, b.within); found = found; clear = clear }
  where
    found : s < end → By N (i + 1) s
    found l = elim (dec_lt s r) [
      | yes g ↦ record { by = i; below = omega arith; holds = b.found g }
      | no g ↦ let z : r ≡ s = omega (arith, b.within) in
          let m = subst (By N i) z (a.found (omega arith)) in
          record { by = m.by; below = omega (arith, m.below); holds = m.holds }
    ]

    clear : (p : ℕ) → p < s → By N (i + 1) p → ⊥
    clear p l m = elim (ℕ_discrete m.by i) [
      | yes z ↦ b.clear p l (subst (λ (j : ℕ). N j p) z m.holds)
      | no g ↦ a.clear p (omega (arith, b.within)) (record { by = m.by; below = omega (arith, m.below); holds = m.holds })
    ]

-- number i is of x alone, or of none
module _ (N : ℕ → ℕ → Type 0) (i end r s : ℕ) (a : Least (By N i) end r) (x : ℕ) (only : (p : ℕ) → N i p → x ≡ p) where
  pub by_takes : N i x → s ≡ min r x → Least (By N (i + 1)) end s
  by_takes h z = by_more N i end r s a (record {
    within = omega arith;
    found = λ l. let w : x ≡ s = omega arith in subst (N i) w h;
    clear = λ p l n. omega (arith, only p n);
  })

  pub by_skips : (N i x → ⊥) → s ≡ r → Least (By N (i + 1)) end s
  by_skips h z = by_more N i end r s a (record {
    within = omega arith;
    found = λ l. absurd (omega arith);
    clear = λ p l n. h (subst (N i) (sym (only p n)) n);
  })

-- from all strings below k
pub blamed_more : (q : ℕ) (f e : ℕ → ℕ) (top k end r s : ℕ) → 1 ≤ k → Least (Blamed q f e top k) end r → Least (Blames q f e top k) r s
    → Least (Blamed q f e top (k + 1)) end s
blamed_more q f e top k end r s some a b =
    let N : ℕ → ℕ → Type 0 = λ x p. (x ≡ 0 → ⊥) × Blames q f e top x p in
    by_more N k end r s a (least_same (Blames q f e top k) (N k) r s (λ p c. (λ z. omega arith, c)) (λ p c no. no c.1) b)
