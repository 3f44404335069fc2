-- Natives applied in order: the identity stays the identity and nothing else becomes it, a string stays a string, and one native more is one
-- step more. Assumes nothing.
use mathlib.Core.List.{List, [], ◌∷◌, ◌++◌}
use mathlib.Core.Path.{◌≡◌, refl, ap, ◌∙◌}
use Prim.Native.Nat.{ℕ, ◌^◌, ◌<◌}
use Rattle.pauli_string.specs.Strings.{blank, rotate}
use Rattle.pauli_string.proofs.Commutation.{conj_zero}
use Rattle.pauli_string.proofs.Pivot.{rotate_string, rotate_nonzero}
use Rattle.table.specs.Entries.{leads}
use Rattle.table.specs.Plans.{applied}

module _ (q : ℕ) (f : ℕ → ℕ) where
  pub applied_zero : (ns : List ℕ) → applied q f 0 ns ≡ 0
  applied_zero [] = refl
  applied_zero (n ∷ ns) =
      let z : leads q f 0 n ≡ 0 = unfold rotate in conj_zero q (blank q (f n)) in
      ap (λ (x : ℕ). applied q f x ns) z ∙ applied_zero ns

  pub applied_nonzero : (ns : List ℕ) (p : ℕ) → applied q f p ns ≡ 0 → p ≡ 0
  applied_nonzero [] p e = e
  applied_nonzero (n ∷ ns) p e = rotate_nonzero q p (f n) (applied_nonzero ns (leads q f p n) e)

  pub applied_append : (x : ℕ) (ns : List ℕ) (n : ℕ) → applied q f x (ns ++ (n ∷ [])) ≡ leads q f (applied q f x ns) n
  applied_append x [] n = refl
  applied_append x (m ∷ ns) n = applied_append (leads q f x m) ns n

  pub applied_string : ((n : ℕ) → f n < 4 ^ q) → (ns : List ℕ) (p : ℕ) → p < 4 ^ q → applied q f p ns < 4 ^ q
  applied_string small [] p h = h
  applied_string small (n ∷ ns) p h = applied_string small ns (leads q f p n) (rotate_string q p (f n) h (small n))
