-- Laws of letters: what anticommutes, and that a capital and a small letter are read as the letter. Each is one test over all
-- letters. Assumes nothing.
use Rattle.std.specs.Prelude.{Option, Some, None, Result, Ok, Err}
use Rattle.bicycle_common.specs.declared.Refusal.{Refusal}
use mathlib.Core.Path.{◌≡◌, refl, ap, ◌∙◌, subst}
use mathlib.Core.Bool.{Bool, true, false, beq, cond, ◌||◌}
use mathlib.Core.Logic.{◌⊎◌, ⊎_elim, inl, inr}
use Prim.Native.Nat.{ℕ, ◌<◌, ◌≤◌}
use native.Mathlib.Omega.{arith}
use lib.Dec.{T, eqb, ltb, eqb→eq, ltb→lt}
use borrow.Author.Tests.{eqb-true}
use Rattle.bicycle_common.specs.declared.Pauli.{Pauli}
use Rattle.bicycle_common.specs.declared.Pauli.TheVariants.{I, X, Z, Y}
use Rattle.bicycle_common.specs.declared.Refusal.TheVariants.{NotLetters}
use Rattle.bicycle_common.specs.Bytes.{upper}
use Rattle.bicycle_common.specs.Letters.{flag, x_of, z_of, letter, rank, same, clash, anticommuting_letters, capital, small, stands_for, read_letter}
use Rattle.bicycle_common.proofs.Tests.{bits, at_bit, letters, at_letter}

pub beq→eq : (a b : Bool) → T (beq a b) → a ≡ b
beq→eq true true t = refl
beq→eq true false t = absurd t
beq→eq false true t = absurd t
beq→eq false false t = refl

-- ---- digits

pub flag_le : (b : Bool) → flag b ≤ 1
flag_le true = omega arith
flag_le false = omega arith

pub x_of_lt : (l : Pauli) → x_of l < 2
x_of_lt l = ltb→lt (x_of l) 2 (at_letter (λ a. ltb (x_of a) 2) tt l)

pub z_of_lt : (l : Pauli) → z_of l < 2
z_of_lt l = ltb→lt (z_of l) 2 (at_letter (λ a. ltb (z_of a) 2) tt l)

-- a letter is its two digits
pub letter_digits : (l : Pauli) → letter (x_of l) (z_of l) ≡ l
letter_digits I = refl
letter_digits X = refl
letter_digits Z = refl
letter_digits Y = refl

pub digit_x : (x z : ℕ) → x < 2 → z < 2 → x_of (letter x z) ≡ x
digit_x x z hx hz =
    eqb→eq _ _ (at_bit (λ b. eqb (x_of (letter x b)) x) (at_bit (λ a. bits (λ b. eqb (x_of (letter a b)) a)) tt x hx) z hz)

pub digit_z : (x z : ℕ) → x < 2 → z < 2 → z_of (letter x z) ≡ z
digit_z x z hx hz =
    eqb→eq _ _ (at_bit (λ b. eqb (z_of (letter x b)) b) (at_bit (λ a. bits (λ b. eqb (z_of (letter a b)) b)) tt x hx) z hz)

-- ---- which letters anticommute

pub clash_sym : (a b : Pauli) → clash a b ≡ clash b a
unfolding clash same rank
clash_sym a b =
    beq→eq _ _
    (at_letter (λ l. beq (clash a l) (clash l a)) (at_letter (λ k. letters (λ l. beq (clash k l) (clash l k))) tt a) b)

pub clash_self : (a : Pauli) → clash a a ≡ false
unfolding clash same rank
clash_self a = beq→eq _ _ (at_letter (λ l. beq (clash l l) false) tt a)

-- m is one of the two letters
abbrev pub among : Pauli → Option (Pauli × Pauli) → Bool
among m (Some (a, b)) = same m a || same m b
among m None = false

-- the letters that `anticommuting` answers are all that anticommute with l, and no others
pub anticommuting_exact : (l m : Pauli) → among m (anticommuting_letters l) ≡ clash l m
unfolding clash same rank
anticommuting_exact l m =
    beq→eq _ _
    (at_letter (λ b. beq (among b (anticommuting_letters l)) (clash l b))
    (at_letter (λ a. letters (λ b. beq (among b (anticommuting_letters a)) (clash a b))) tt l) m)

abbrev pub in_order : Option (Pauli × Pauli) → Bool
in_order (Some (a, b)) = ltb (rank a) (rank b)
in_order None = true

-- and they come in the order of the letters
pub anticommuting_ordered : (l : Pauli) → T (in_order (anticommuting_letters l))
unfolding rank
anticommuting_ordered l = at_letter (λ a. in_order (anticommuting_letters a)) tt l

-- ---- bytes

pub read_capital : (l : Pauli) → read_letter (capital l) ≡ Ok l
unfolding read_letter
read_capital I = refl
read_capital X = refl
read_capital Z = refl
read_capital Y = refl

-- b stands for l where it is l's capital or l's small letter
stands_for_law : (b : ℕ) (l : Pauli) → stands_for b l ≡ true → (b ≡ capital l) ⊎ (b ≡ small l)
stands_for_law b l e = go (eqb b (capital l)) refl e
  where
    go : (c : Bool) → eqb b (capital l) ≡ c → (c || eqb b (small l)) ≡ true → (b ≡ capital l) ⊎ (b ≡ small l)
    go true f g = inl (eqb-true b (capital l) f)
    go false f g = inr (eqb-true b (small l) g)

-- what is known of a byte that is read as l: that it is one of l's two bytes
pub read_exact : (b : ℕ) (l : Pauli) → read_letter b ≡ Ok l → (b ≡ capital l) ⊎ (b ≡ small l)
unfolding read_letter
read_exact b l = test I (test X (test Z (test Y (λ e. absurd (no_letter e)))))
  where
    no_letter : Err NotLetters ≡ Ok l → ⊥
    no_letter e = let z : ◌≡◌ {A = ℕ} 0 1 = cc in omega arith

    test : (k : Pauli) {other : Result Pauli Refusal} → (other ≡ Ok l → (b ≡ capital l) ⊎ (b ≡ small l))
        → cond (stands_for b k) (Ok k) other ≡ Ok l → (b ≡ capital l) ⊎ (b ≡ small l)
    test k {other} rest e = go (stands_for b k) refl e
      where
        go : (c : Bool) → stands_for b k ≡ c → cond c (Ok k) other ≡ Ok l → (b ≡ capital l) ⊎ (b ≡ small l)
        go true f g =
            let k=l : k ≡ l = cc in
            subst (λ (m : Pauli). (b ≡ capital m) ⊎ (b ≡ small m)) k=l (stands_for_law b k f)
        go false f g = rest g

-- and of one that is not: that it is refused by 13
pub read_refused : (b : ℕ) (r : Refusal) → read_letter b ≡ Err r → r ≡ NotLetters
unfolding read_letter
read_refused b r = test I (test X (test Z (test Y (λ e. cc))))
  where
    test : (k : Pauli) {other : Result Pauli Refusal} → (other ≡ Err r → r ≡ NotLetters) → cond (stands_for b k) (Ok k) other ≡ Err r → r ≡ NotLetters
    test k {other} rest e = go (stands_for b k) e
      where
        go : (c : Bool) → cond c (Ok k) other ≡ Err r → r ≡ NotLetters
        go true g = cc
        go false g = rest g

upper_capital : (l : Pauli) → upper (capital l) ≡ capital l
unfolding upper
upper_capital l = eqb→eq _ _ (at_letter (λ a. eqb (upper (capital a)) (capital a)) tt l)

upper_small : (l : Pauli) → upper (small l) ≡ capital l
unfolding upper
upper_small l = eqb→eq _ _ (at_letter (λ a. eqb (upper (small a)) (capital a)) tt l)

-- so its capital is l's
pub read_upper : (b : ℕ) (l : Pauli) → read_letter b ≡ Ok l → upper b ≡ capital l
read_upper b l e = ⊎_elim (λ f. ap upper f ∙ upper_capital l) (λ f. ap upper f ∙ upper_small l) (read_exact b l e)
