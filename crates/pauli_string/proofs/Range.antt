-- Which numbers are strings of q letters. Assumes nothing.
use mathlib.Core.Path.{◌≡◌, refl, sym, ap, subst, ◌∙◌}
use mathlib.Core.Bool.{true, false}
use Prim.Native.Nat.{ℕ, zero, suc, ◌+◌, ◌*◌, ◌^◌, ◌≤◌, ◌<◌}
use native.Mathlib.Nat.{pow-suc}
use native.Mathlib.Omega.{arith}
use lib.Pow.{pow-add, pow_pos}
use borrow.Author.Tests.{lt-ltb, le-ltb}
use Rattle.pauli_string.specs.Strings.{is_string}

pub is_string_law : (q p : ℕ) → p < 4 ^ q → is_string q p ≡ true
is_string_law q p h = lt-ltb p (4 ^ q) h

pub no_string : (q p : ℕ) → 4 ^ q ≤ p → is_string q p ≡ false
no_string q p h = le-ltb p (4 ^ q) h

-- 4 ^ q and 2 ^ (q + q) are one bound
pub four_pow : (q : ℕ) → 4 ^ q ≡ 2 ^ (q + q)
four_pow zero = refl
four_pow (suc q) =
    let e : suc q + suc q ≡ q + q + 2 = omega arith in
    pow-suc 4 q ∙ ap (λ (m : ℕ). m * 4) (four_pow q) ∙ sym (pow-add 2 (q + q) 2) ∙ ap (λ (k : ℕ). 2 ^ k) (sym e)

-- there is a string
pub four_pos : (q : ℕ) → 0 < 4 ^ q
four_pos q = subst (λ (n : ℕ). 0 < n) (sym (four_pow q)) (pow_pos (q + q))
