-- Commutation and conjugation of strings of q letters: the program's count of ones is as even as the number of clashing qubits;
-- commutation is symmetric and bilinear; conjugation undoes itself. Assumes nothing.
use mathlib.Core.Path.{◌≡◌, refl, sym, ap, ap₂, ◌∙◌}
use mathlib.Core.Bool.{Bool, true, false, beq, cond}
use Prim.Native.Nat.{ℕ, zero, suc, ◌+◌, ◌*◌, ◌/◌, ◌%◌, ◌^◌, ◌≤◌, ◌<◌, min}
use native.Mathlib.Nat.{mod-lt, le_refl, le_of_lt, add-zero, zero-add, zero-mul, div-add-mod'}
use native.Mathlib.Omega.{arith}
use lib.Dec.{eqb, eqb→eq}
use lib.Arith.{bin_ind}
use lib.Pow.{pow_pos, split, shr_lt, shl_exact}
use lib.Bits.{bit_and, bit_or, bit_xor, differ, and_block, and_lt, or_shifted, xor_block, xor_self, xor_zero_r, xor_step, xor_shr, xor_lt}
use lib.Count.{ones, ones_cat}
use Rattle.bicycle_common.specs.declared.Pauli.{Pauli}
use Rattle.bicycle_common.specs.Ranges.{sum}
use Rattle.bicycle_common.specs.Letters.{flag, letter, rank, same, clash}
use Rattle.bicycle_common.proofs.Tests.{bits, at_bit, letters, at_letter}
use Rattle.bicycle_common.proofs.Letters.{beq→eq, clash_sym, clash_self}
use Rattle.pauli_string.specs.Strings.{bit, letter_at, clashes, commute, conj}
use Rattle.pauli_string.proofs.Digits.{two_pos, low_digit, differ_lt, bit_lt, bit_zero, and_bit, xor_bit, bit_high, bit_low, ones_of}

-- 1 where two letters clash
abbrev anti : Pauli → Pauli → ℕ
anti a b = flag (clash a b)

-- ---- the count of ones of the masked word is as even as the number of clashing qubits

crossed : ℕ → ℕ → ℕ → ℕ → Bool
crossed x z x' z' = eqb ((min x z' + min z x') % 2) (anti (letter x z) (letter x' z') % 2)

-- one qubit, all sixteen pairs of letters
cross : (x z x' z' : ℕ) → x < 2 → z < 2 → x' < 2 → z' < 2 → (min x z' + min z x') % 2 ≡ anti (letter x z) (letter x' z') % 2
unfolding crossed clash same rank
cross x z x' z' hx hz hx' hz' =
    eqb→eq _ _
    (at_bit (λ d. crossed x z x' d)
    (at_bit (λ c. bits (λ d. crossed x z c d))
    (at_bit (λ b. bits (λ c. bits (λ d. crossed x b c d)))
    (at_bit (λ a. bits (λ b. bits (λ c. bits (λ d. crossed a b c d)))) tt x hx) z hz) x' hx') z' hz')

sum_parity : (a b c d e f : ℕ) → (a + b) % 2 ≡ e % 2 → (c + d) % 2 ≡ f % 2 → (a + c + (b + d)) % 2 ≡ (e + f) % 2
sum_parity a b c d e f p q = omega arith

module _ (q p r : ℕ) where
  -- what the masked word's two halves hold
  abbrev hi_and : ℕ
  hi_and = bit_and (p % 2 ^ q) (r / 2 ^ q)

  abbrev lo_and : ℕ
  lo_and = bit_and (p / 2 ^ q) (r % 2 ^ q)

  qubit : (i : ℕ) → i < q → (bit hi_and i + bit lo_and i) % 2 ≡ anti (letter_at q p i) (letter_at q r i) % 2
  unfolding letter_at
  qubit i h =
      ap₂ (λ (a b : ℕ). (a + b) % 2)
      (and_bit (p % 2 ^ q) (r / 2 ^ q) i ∙ ap₂ min (bit_low p q i h) (bit_high r q i))
      (and_bit (p / 2 ^ q) (r % 2 ^ q) i ∙ ap₂ min (bit_high p q i) (bit_low r q i h))
      ∙ cross (bit p i) (bit p (q + i)) (bit r i) (bit r (q + i)) (bit_lt p i) (bit_lt p (q + i)) (bit_lt r i) (bit_lt r (q + i))

  first_qubits : (k : ℕ) → k ≤ q → (sum k (bit hi_and) + sum k (bit lo_and)) % 2 ≡ clashes q p r k % 2
  unfolding sum clashes
  first_qubits zero h = refl
  first_qubits (suc k) h =
      sum_parity (sum k (bit hi_and)) (sum k (bit lo_and)) (bit hi_and k) (bit lo_and k) (clashes q p r k) (anti (letter_at q p k) (letter_at q r k))
      (first_qubits k (le_of_lt h)) (qubit k h)

  pub count_law : p < 2 ^ (q + q) → r < 2 ^ (q + q)
      → ones (bit_and (p % 2 ^ q * 2 ^ q + p / 2 ^ q) r) % 2 ≡ clashes q p r q % 2
  count_law hp hr =
      let hz : p / 2 ^ q < 2 ^ q = shr_lt q q hp in
      let hw : r / 2 ^ q < 2 ^ q = shr_lt q q hr in
      let hx : p % 2 ^ q < 2 ^ q = mod-lt p (pow_pos q) in
      let hy : r % 2 ^ q < 2 ^ q = mod-lt r (pow_pos q) in
      let ha : hi_and < 2 ^ q = and_lt q _ _ hx hw in
      let hb : lo_and < 2 ^ q = and_lt q _ _ hz hy in
      ap (λ (n : ℕ). ones (bit_and (p % 2 ^ q * 2 ^ q + p / 2 ^ q) n) % 2) (sym (split r q))
      ∙ ap (λ (n : ℕ). ones n % 2) (and_block q (p % 2 ^ q) (r / 2 ^ q) (p / 2 ^ q) (r % 2 ^ q) hz hy)
      ∙ ap (λ (n : ℕ). n % 2) (ones_cat q hi_and lo_and hb ∙ ap₂ (λ (a b : ℕ). a + b) (ones_of hi_and q ha) (ones_of lo_and q hb))
      ∙ first_qubits q (le_refl q)

-- the transposed word, as the program makes it in w bits
pub transpose_law : (w q p : ℕ) → q + q ≤ w → p < 2 ^ (q + q)
    → bit_or ((bit_xor p ((p / 2 ^ q * 2 ^ q) % 2 ^ w) * 2 ^ q) % 2 ^ w) (p / 2 ^ q) ≡ p % 2 ^ q * 2 ^ q + p / 2 ^ q
transpose_law w q p hw hp =
    let hz : p / 2 ^ q < 2 ^ q = shr_lt q q hp in
    let hx : p % 2 ^ q < 2 ^ q = mod-lt p (pow_pos q) in
    ap (λ (n : ℕ). bit_or ((bit_xor p n * 2 ^ q) % 2 ^ w) (p / 2 ^ q)) (shl_exact q q w hz hw)
    ∙ ap (λ (n : ℕ). bit_or ((n * 2 ^ q) % 2 ^ w) (p / 2 ^ q)) (xor_high q p)
    ∙ ap (λ (n : ℕ). bit_or n (p / 2 ^ q)) (shl_exact q q w hx hw)
    ∙ or_shifted (p % 2 ^ q) q (p / 2 ^ q) hz
  where
    xor_high : (k n : ℕ) → bit_xor n (n / 2 ^ k * 2 ^ k) ≡ n % 2 ^ k
    xor_high k n =
        ap₂ bit_xor (sym (split n k)) (sym (add-zero (n / 2 ^ k * 2 ^ k)))
        ∙ xor_block k (n / 2 ^ k) (n / 2 ^ k) (n % 2 ^ k) 0 (mod-lt n (pow_pos k)) (pow_pos k)
        ∙ ap₂ (λ (a b : ℕ). a * 2 ^ k + b) (xor_self (n / 2 ^ k)) (xor_zero_r (n % 2 ^ k))
        ∙ ap (λ (a : ℕ). a + n % 2 ^ k) (zero-mul (2 ^ k)) ∙ zero-add (n % 2 ^ k)

-- ---- commutation is symmetric, and a string commutes with itself

clashes_sym : (q p r k : ℕ) → clashes q p r k ≡ clashes q r p k
unfolding clashes
clashes_sym q p r zero = refl
clashes_sym q p r (suc k) = ap₂ (λ (a : ℕ) (b : Bool). a + flag b) (clashes_sym q p r k) (clash_sym (letter_at q p k) (letter_at q r k))

clashes_self : (q p k : ℕ) → clashes q p p k ≡ 0
unfolding clashes
clashes_self q p zero = refl
clashes_self q p (suc k) = ap₂ (λ (a : ℕ) (b : Bool). a + flag b) (clashes_self q p k) (clash_self (letter_at q p k))

pub commute_sym : (q p r : ℕ) → commute q p r ≡ commute q r p
unfolding commute
commute_sym q p r = ap (λ (n : ℕ). eqb (n % 2) 0) (clashes_sym q p r q)

pub commute_self : (q p : ℕ) → commute q p p ≡ true
unfolding commute
commute_self q p = ap (λ (n : ℕ). eqb (n % 2) 0) (clashes_self q p q)

-- ---- clashes with a product add up modulo 2, so a product commutes with s where both factors do, or neither

linear : ℕ → ℕ → ℕ → ℕ → Pauli → Bool
linear x z x' z' l = eqb (anti (letter (differ x x') (differ z z')) l % 2) ((anti (letter x z) l + anti (letter x' z') l) % 2)

lin : (x z x' z' : ℕ) (l : Pauli) → x < 2 → z < 2 → x' < 2 → z' < 2
    → anti (letter (differ x x') (differ z z')) l % 2 ≡ (anti (letter x z) l + anti (letter x' z') l) % 2
unfolding linear clash same rank
lin x z x' z' l hx hz hx' hz' =
    eqb→eq _ _
    (at_letter (linear x z x' z')
    (at_bit (λ d. letters (linear x z x' d))
    (at_bit (λ c. bits (λ d. letters (linear x z c d)))
    (at_bit (λ b. bits (λ c. bits (λ d. letters (linear x b c d))))
    (at_bit (λ a. bits (λ b. bits (λ c. bits (λ d. letters (linear a b c d))))) tt x hx) z hz) x' hx') z' hz') l)

split_parity : (a b c d e f : ℕ) → a % 2 ≡ (b + c) % 2 → d % 2 ≡ (e + f) % 2 → (a + d) % 2 ≡ (b + e + (c + f)) % 2
split_parity a b c d e f p q = omega arith

clashes_xor : (q p r s k : ℕ) → clashes q (bit_xor p r) s k % 2 ≡ (clashes q p s k + clashes q r s k) % 2
unfolding clashes letter_at
clashes_xor q p r s zero = refl
clashes_xor q p r s (suc k) =
    split_parity (clashes q (bit_xor p r) s k) (clashes q p s k) (clashes q r s k)
    (anti (letter_at q (bit_xor p r) k) (letter_at q s k)) (anti (letter_at q p k) (letter_at q s k)) (anti (letter_at q r k) (letter_at q s k))
    (clashes_xor q p r s k)
    (ap₂ (λ (a b : ℕ). anti (letter a b) (letter_at q s k) % 2) (xor_bit p r k) (xor_bit p r (q + k))
    ∙ lin (bit p k) (bit p (q + k)) (bit r k) (bit r (q + k)) (letter_at q s k) (bit_lt p k) (bit_lt p (q + k)) (bit_lt r k) (bit_lt r (q + k)))

even_sum : (a b : ℕ) → eqb ((a + b) % 2) 0 ≡ beq (eqb (a % 2) 0) (eqb (b % 2) 0)
even_sum a b =
    let e : (a + b) % 2 ≡ (a % 2 + b % 2) % 2 = omega arith in
    ap (λ (n : ℕ). eqb n 0) e
    ∙ beq→eq _ _
    (at_bit (λ y. beq (eqb ((a % 2 + y) % 2) 0) (beq (eqb (a % 2) 0) (eqb y 0)))
    (at_bit (λ x. bits (λ y. beq (eqb ((x + y) % 2) 0) (beq (eqb x 0) (eqb y 0)))) tt (a % 2) (mod-lt a two_pos)) (b % 2) (mod-lt b two_pos))

pub commute_product : (q p r s : ℕ) → commute q (bit_xor p r) s ≡ beq (commute q p s) (commute q r s)
unfolding commute
commute_product q p r s = ap (λ (n : ℕ). eqb n 0) (clashes_xor q p r s q) ∙ even_sum (clashes q p s q) (clashes q r s q)

pub commute_product_right : (q s p r : ℕ) → commute q s (bit_xor p r) ≡ beq (commute q s p) (commute q s r)
commute_product_right q s p r =
    commute_sym q s (bit_xor p r) ∙ commute_product q p r s ∙ ap₂ beq (commute_sym q p s) (commute_sym q r s)

-- ---- conjugation

differ_cancel : (x y : ℕ) → x < 2 → y < 2 → differ (differ x y) y ≡ x
differ_cancel x y hx hy =
    eqb→eq _ _ (at_bit (λ b. eqb (differ (differ x b) b) x) (at_bit (λ a. bits (λ b. eqb (differ (differ a b) b) a)) tt x hx) y hy)

pub xor_cancel : (a b : ℕ) → bit_xor (bit_xor a b) b ≡ a
xor_cancel a =
    bin_ind (λ (n : ℕ). (b : ℕ) → bit_xor (bit_xor n b) b ≡ n) xor_self
    (λ n ih b. xor_step (bit_xor n b) b
    ∙ ap₂ (λ (h l : ℕ). h * 2 + l)
    (ap (λ (m : ℕ). bit_xor m (b / 2)) (xor_shr n b 1) ∙ ih (b / 2))
    (ap (λ (m : ℕ). differ m (b % 2)) (low n b) ∙ differ_cancel (n % 2) (b % 2) (mod-lt n two_pos) (mod-lt b two_pos))
    ∙ div-add-mod' n 2) a
  where
    low : (n b : ℕ) → bit_xor n b % 2 ≡ differ (n % 2) (b % 2)
    low n b = low_digit _ _ _ (differ_lt _ _ (mod-lt n two_pos) (mod-lt b two_pos)) (xor_step n b)

pub conj_commuting : (q p r : ℕ) → commute q p r ≡ true → conj q p r ≡ p
unfolding conj
conj_commuting q p r e = ap (λ (b : Bool). cond b p (bit_xor p r)) e

pub conj_anti : (q p r : ℕ) → commute q p r ≡ false → conj q p r ≡ bit_xor p r
unfolding conj
conj_anti q p r e = ap (λ (b : Bool). cond b p (bit_xor p r)) e

-- a product anticommutes with a factor where the other factor does
still_anti : (q p r : ℕ) → commute q p r ≡ false → commute q (bit_xor p r) r ≡ false
still_anti q p r e = commute_product q p r r ∙ ap₂ beq e (commute_self q r)

-- conjugation is an involution
pub conj_conj : (q p r : ℕ) → conj q (conj q p r) r ≡ p
conj_conj q p r = go (commute q p r) refl
  where
    go : (b : Bool) → commute q p r ≡ b → conj q (conj q p r) r ≡ p
    go true e = ap (λ (n : ℕ). conj q n r) (conj_commuting q p r e) ∙ conj_commuting q p r e
    go false e = ap (λ (n : ℕ). conj q n r) (conj_anti q p r e) ∙ conj_anti q (bit_xor p r) r (still_anti q p r e) ∙ xor_cancel p r

-- it stays below any power of two that bounds both strings
pub conj_lt : (q k p r : ℕ) → p < 2 ^ k → r < 2 ^ k → conj q p r < 2 ^ k
unfolding conj
conj_lt q k p r hp hr = go (commute q p r)
  where
    go : (b : Bool) → cond b p (bit_xor p r) < 2 ^ k
    go true = hp
    go false = xor_lt k p r hp hr

clashes_zero : (q r k : ℕ) → clashes q 0 r k ≡ 0
unfolding clashes letter_at clash
clashes_zero q r zero = refl
clashes_zero q r (suc k) =
    ap₂ (λ (a b : ℕ). a + b) (clashes_zero q r k) (ap₂ (λ (x z : ℕ). anti (letter x z) (letter_at q r k)) (bit_zero k) (bit_zero (q + k)))

pub conj_zero : (q r : ℕ) → conj q 0 r ≡ 0
unfolding commute
conj_zero q r = conj_commuting q 0 r (ap (λ (n : ℕ). eqb (n % 2) 0) (clashes_zero q r q))

-- and keeps a nonzero string nonzero
pub conj_nonzero : (q p r : ℕ) → conj q p r ≡ 0 → p ≡ 0
conj_nonzero q p r e = sym (conj_conj q p r) ∙ ap (λ (n : ℕ). conj q n r) e ∙ conj_zero q r
