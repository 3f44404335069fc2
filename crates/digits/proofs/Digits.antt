-- A digit made 1 is 1, and every other digit stays; bytes of 255 have the digit 1 everywhere. Assumes nothing.
use mathlib.Core.Path.{◌≡◌, sym, ap, subst, ◌∙◌}
use mathlib.Core.List.{List}
use Prim.Native.Nat.{ℕ, ◌+◌, ◌-◌, ◌*◌, ◌/◌, ◌%◌, ◌^◌, ◌<◌}
use native.Mathlib.Omega.{arith}
use native.Mathlib.Decide.{ℕ_discrete}
use lib.Dec.{lit<}
use lib.ListN.{length, replicate, get_or-replicate}
use lib.Pow.{ones_split, ones_lt, high, low}
use lib.Seq.{get_or-set_same, get_or-set_other}
use Rattle.pauli_string.specs.Strings.{bit, set_bit}
use Rattle.pauli_string.proofs.Places.{set_same, set_other}
use Rattle.natives.specs.Arrays.{at}
use Rattle.digits.specs.Digits.{digit, one}

-- ---- a digit made 1

module _ (l : List ℕ) (b : ℕ) (h : b / 8 < length l) where
  -- in its byte
  byte : (j : ℕ) → j / 8 ≡ b / 8 → digit (one l b) j ≡ bit (set_bit (at l (j / 8)) (b % 8) 1) (j % 8)
  byte j e =
      ap (λ (v : ℕ). bit v (j % 8))
      (ap (at (one l b)) e ∙ get_or-set_same l (b / 8) (set_bit (at l (b / 8)) (b % 8) 1) 0 h ∙ ap (λ (i : ℕ). set_bit (at l i) (b % 8) 1) (sym e))

  pub one_here : digit (one l b) b ≡ 1
  one_here =
      ap (λ (v : ℕ). bit v (b % 8)) (get_or-set_same l (b / 8) (set_bit (at l (b / 8)) (b % 8) 1) 0 h)
      ∙ set_same (at l (b / 8)) (b % 8) 1 (lit< tt)

  pub one_other : (j : ℕ) → (j ≡ b → ⊥) → digit (one l b) j ≡ digit l j
  one_other j f = elim (ℕ_discrete (j / 8) (b / 8)) [
    | yes e ↦ byte j e ∙ set_other (at l (j / 8)) (b % 8) 1 (j % 8) (lit< tt) (λ z. f (omega arith))
    | no g ↦ ap (λ (v : ℕ). bit v (j % 8)) (get_or-set_other l (b / 8) (j / 8) (set_bit (at l (b / 8)) (b % 8) 1) 0 g)
  ]

  -- so no digit that was 1 is 0
  pub one_rises : (j : ℕ) → digit (one l b) j ≡ 0 → digit l j ≡ 0
  one_rises j z = elim (ℕ_discrete j b) [
    | yes e ↦ absurd (omega (arith, ap (digit (one l b)) e, one_here))
    | no f ↦ sym (one_other j f) ∙ z
  ]

-- ---- all digits 1

ones_bit : (j k : ℕ) → bit (2 ^ (j + 1 + k) - 1) k ≡ 1
unfolding bit
ones_bit j k =
    ap (λ (v : ℕ). v / 2 ^ k % 2) (ones_split (j + 1) k)
    ∙ ap (λ (v : ℕ). v % 2) (high (2 ^ (j + 1) - 1) k (ones_lt k) ∙ ones_split j 1)
    ∙ low (2 ^ j - 1) 1 (lit< tt)

pub ones_digit : (n b : ℕ) → b < n * 8 → digit (replicate n 255) b ≡ 1
ones_digit n b h =
    let e : 7 - b % 8 + 1 + b % 8 ≡ 8 = omega arith in
    ap (λ (v : ℕ). bit v (b % 8)) (get_or-replicate {A = ℕ} n (b / 8) 255 0 (omega arith))
    ∙ subst (λ (w : ℕ). bit (2 ^ w - 1) (b % 8) ≡ 1) e (ones_bit (7 - b % 8) (b % 8))
