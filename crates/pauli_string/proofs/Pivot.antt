-- The pivot of a string of q letters: the masks that the program uses, that blanking takes away the letter on the pivot alone, and
-- that a rotation keeps it. Assumes nothing.
use mathlib.Core.Path.{◌≡◌, refl, sym, ap, ap₂, subst, ◌∙◌}
use mathlib.Core.Bool.{Bool, true, false, beq, cond, not, ◌&&◌}
use Prim.Native.Nat.{ℕ, zero, suc, ◌+◌, ◌-◌, ◌*◌, ◌/◌, ◌%◌, ◌^◌, ◌≤◌, ◌<◌}
use native.Mathlib.Nat.{mod-lt, add-zero, add-mul}
use native.Mathlib.Omega.{arith}
use lib.Dec.{eqb, eqb-suc-zero, lit<}
use borrow.Author.Tests.{eq-eqb, ne_eqb, eqb-true, not-false}
use lib.Pow.{pow_pos, split, shr_lt, pow-lt, pow-sub-lt, shr_mod, high, low}
use lib.Bits.{bit_and, bit_xor, differ, and_block, and_mask, and_high}
use Rattle.bicycle_common.specs.declared.Pauli.{Pauli}
use Rattle.bicycle_common.specs.declared.Pauli.TheVariants.{I}
use Rattle.bicycle_common.specs.Letters.{letter, is_i}
use Rattle.bicycle_common.proofs.Tests.{bits, at_bit}
use Rattle.bicycle_common.proofs.Letters.{beq→eq}
use Rattle.pauli_string.specs.Strings.{bit, letter_at, commute, conj, pivot_bits, blank, has_pivot, rotate}
use Rattle.pauli_string.proofs.Digits.{even, halved, bit_lt, bit_first, bit_even, xor_bit, bit_high, bit_low}
use Rattle.pauli_string.proofs.Range.{four_pow}
use Rattle.pauli_string.proofs.Commutation.{conj_conj, conj_lt, conj_nonzero}

-- ---- the masks

-- the mask 1 | 1 << q
pub pivot_mask : (q p : ℕ) → 0 < q → bit_and p (1 * 2 ^ q + 1) ≡ pivot_bits q p
unfolding pivot_bits bit
pivot_mask q p h =
    ap (λ (n : ℕ). bit_and n (1 * 2 ^ q + 1)) (sym (split p q))
    ∙ and_block q (p / 2 ^ q) 1 (p % 2 ^ q) 1 (mod-lt p (pow_pos q)) (pow-lt h)
    ∙ ap₂ (λ (a b : ℕ). a * 2 ^ q + b) (and_mask (p / 2 ^ q) 1) (and_mask (p % 2 ^ q) 1 ∙ sym (bit_first (p % 2 ^ q)) ∙ bit_low p q 0 h)

-- taking the lowest digit off both halves
halves_sub : (n P a b : ℕ) → n ≡ a * P + b → n - (a % 2 * P + b % 2) ≡ a / 2 * 2 * P + b / 2 * 2
halves_sub n P a b e =
    omega (arith, halved a P)

pub blank_halves : (q p : ℕ) → 0 < q → blank q p ≡ p / 2 ^ q / 2 * 2 * 2 ^ q + p % 2 ^ q / 2 * 2
unfolding blank pivot_bits bit
blank_halves q p h =
    ap (λ (n : ℕ). p - (p / 2 ^ q % 2 * 2 ^ q + n)) (sym (bit_low p q 0 h) ∙ bit_first (p % 2 ^ q))
    ∙ halves_sub p (2 ^ q) (p / 2 ^ q) (p % 2 ^ q) (sym (split p q))

-- the mask !(1 << q | 1) in j + 1 + q digits, where q is m + 1
pub blank_mask : (j m p : ℕ) → p < 2 ^ (j + 1 + (m + 1))
    → bit_and p ((2 ^ (j + 1) - 2 ^ 1) * 2 ^ (m + 1) + (2 ^ (m + 1) - 2 ^ 1)) ≡ blank (m + 1) p
blank_mask j m p h =
    let hb : p % 2 ^ (m + 1) < 2 ^ (m + 1) = mod-lt p (pow_pos (m + 1)) in
    ap (λ (n : ℕ). bit_and n ((2 ^ (j + 1) - 2 ^ 1) * 2 ^ (m + 1) + (2 ^ (m + 1) - 2 ^ 1))) (sym (split p (m + 1)))
    ∙ and_block (m + 1) (p / 2 ^ (m + 1)) (2 ^ (j + 1) - 2 ^ 1) (p % 2 ^ (m + 1)) (2 ^ (m + 1) - 2 ^ 1) hb (pow-sub-lt (m + 1) (lit< tt))
    ∙ ap₂ (λ (a b : ℕ). a * 2 ^ (m + 1) + b)
    (and_high (p / 2 ^ (m + 1)) j 1 ∙ ap (λ (n : ℕ). n * 2) (shr_mod j 1 (shr_lt (j + 1) (m + 1) h)))
    (and_high (p % 2 ^ (m + 1)) m 1 ∙ ap (λ (n : ℕ). n * 2) (shr_mod m 1 hb))
    ∙ sym (blank_halves (m + 1) p (omega arith))

-- ---- a sum of two parts is zero where both are

pub zero_parts : (a b m : ℕ) → 0 < m → eqb (a * m + b) 0 ≡ (eqb a 0 && eqb b 0)
zero_parts zero zero m h = eq-eqb (0 * m + 0) 0 (omega arith)
zero_parts zero (suc b) m h = ne_eqb (0 * m + suc b) 0 (λ e. omega arith) ∙ sym (eqb-suc-zero b)
zero_parts (suc a) b m h =
    let k : 1 * m ≤ suc a * m = omega (arith, add-mul a 1 m) in
    ne_eqb (suc a * m + b) 0 (λ e. omega arith) ∙ ap (λ (c : Bool). c && eqb b 0) (sym (eqb-suc-zero a))

-- no letter stands on the pivot where its digits are zero
pub pivot_zero : (q p : ℕ) → eqb (pivot_bits q p) 0 ≡ is_i (letter_at q p 0)
unfolding pivot_bits letter_at
pivot_zero q p =
    zero_parts (bit p q) (bit p 0) (2 ^ q) (pow_pos q)
    ∙ beq→eq _ _
    (at_bit (λ z. beq (eqb z 0 && eqb (bit p 0) 0) (is_i (letter (bit p 0) z)))
    (at_bit (λ x. bits (λ z. beq (eqb z 0 && eqb x 0) (is_i (letter x z)))) tt (bit p 0) (bit_lt p 0)) (bit p q) (bit_lt p q))
    ∙ ap (λ (k : ℕ). is_i (letter (bit p 0) (bit p k))) (sym (add-zero q))

-- ---- a blanked string has the identity on the pivot, and the other letters stay

blank_hi : (q p : ℕ) → 0 < q → blank q p / 2 ^ q ≡ p / 2 ^ q / 2 * 2
blank_hi q p h =
    let k : p % 2 ^ q / 2 * 2 < 2 ^ q = omega (arith, mod-lt p (pow_pos q)) in
    ap (λ (n : ℕ). n / 2 ^ q) (blank_halves q p h) ∙ high (p / 2 ^ q / 2 * 2) q k

blank_lo : (q p : ℕ) → 0 < q → blank q p % 2 ^ q ≡ p % 2 ^ q / 2 * 2
blank_lo q p h =
    let k : p % 2 ^ q / 2 * 2 < 2 ^ q = omega (arith, mod-lt p (pow_pos q)) in
    ap (λ (n : ℕ). n % 2 ^ q) (blank_halves q p h) ∙ low (p / 2 ^ q / 2 * 2) q k

blank_x : (q p : ℕ) → 0 < q → bit (blank q p) 0 ≡ 0
blank_x q p h =
    sym (bit_low (blank q p) q 0 h) ∙ ap (λ (n : ℕ). bit n 0) (blank_lo q p h) ∙ bit_first (p % 2 ^ q / 2 * 2) ∙ even (p % 2 ^ q / 2)

blank_z : (q p : ℕ) → 0 < q → bit (blank q p) q ≡ 0
unfolding bit
blank_z q p h = ap (λ (n : ℕ). n % 2) (blank_hi q p h) ∙ even (p / 2 ^ q / 2)

pub blank_pivot : (q p : ℕ) → 0 < q → letter_at q (blank q p) 0 ≡ I
unfolding letter_at
blank_pivot q p h = ap₂ letter (blank_x q p h) (ap (bit (blank q p)) (add-zero q) ∙ blank_z q p h)

pub blank_letter : (q p i : ℕ) → 1 + i < q → letter_at q (blank q p) (1 + i) ≡ letter_at q p (1 + i)
unfolding letter_at
blank_letter q p i h =
    let z : 0 < q = omega arith in
    ap₂ letter
    (sym (bit_low (blank q p) q (1 + i) h) ∙ ap (λ (n : ℕ). bit n (1 + i)) (blank_lo q p z) ∙ bit_even (p % 2 ^ q) i ∙ bit_low p q (1 + i) h)
    (sym (bit_high (blank q p) q (1 + i)) ∙ ap (λ (n : ℕ). bit n (1 + i)) (blank_hi q p z) ∙ bit_even (p / 2 ^ q) i ∙ bit_high p q (1 + i))

pub blank_le : (q p : ℕ) → blank q p ≤ p
unfolding blank
blank_le q p = omega arith

-- a string with no letter on the pivot is its own blank
pub blank_same : (q p : ℕ) → has_pivot q p ≡ false → blank q p ≡ p
unfolding has_pivot blank
blank_same q p e =
    let z : pivot_bits q p ≡ 0 = eqb-true (pivot_bits q p) 0 (pivot_zero q p ∙ not-false (is_i (letter_at q p 0)) e) in
    omega arith

-- so blanking twice is blanking
pub blank_blank : (q p : ℕ) → 0 < q → blank q (blank q p) ≡ blank q p
blank_blank q p h = blank_same q (blank q p) (unfold has_pivot in ap (λ (l : Pauli). not (is_i l)) (blank_pivot q p h))

-- the pivot's digits are a part of the string
pub pivot_le : (q p : ℕ) → 0 < q → pivot_bits q p ≤ p
unfolding pivot_bits
pivot_le q p h =
    let b : bit p 0 ≡ p % 2 ^ q % 2 = sym (bit_low p q 0 h) ∙ bit_first (p % 2 ^ q) in
    below p (2 ^ q) (p / 2 ^ q) (p % 2 ^ q) (bit p q) (bit p 0) (split p q) (unfold bit in refl) b
  where
    below : (p P a b z x : ℕ) → a * P + b ≡ p → z ≡ a % 2 → x ≡ b % 2 → z * P + x ≤ p
    below p P a b z x e ez ex = rw ez (omega (arith, halved a P))

-- ---- a rotation keeps the letter on the pivot, and undoes itself

differ_zero : (x : ℕ) → differ x 0 ≡ x
differ_zero zero = refl
differ_zero (suc x) = refl

pub rotate_pivot : (q p r : ℕ) → 0 < q → letter_at q (rotate q p r) 0 ≡ letter_at q p 0
unfolding rotate conj letter_at
rotate_pivot q p r h = go (commute q p (blank q r))
  where
    go : (b : Bool) → letter_at q (cond b p (bit_xor p (blank q r))) 0 ≡ letter_at q p 0
    go true = refl
    go false =
        ap₂ letter
        (xor_bit p (blank q r) 0 ∙ ap (differ (bit p 0)) (blank_x q r h) ∙ differ_zero (bit p 0))
        (xor_bit p (blank q r) (q + 0) ∙ ap (differ (bit p (q + 0))) (ap (bit (blank q r)) (add-zero q) ∙ blank_z q r h) ∙ differ_zero (bit p (q + 0)))

-- and so the digits of that letter
pub rotate_pivot_bits : (q p r : ℕ) → 0 < q → pivot_bits q (rotate q p r) ≡ pivot_bits q p
unfolding rotate conj pivot_bits
rotate_pivot_bits q p r h = go (commute q p (blank q r))
  where
    go : (b : Bool) → bit (cond b p (bit_xor p (blank q r))) q * 2 ^ q + bit (cond b p (bit_xor p (blank q r))) 0 ≡ bit p q * 2 ^ q + bit p 0
    go true = refl
    go false =
        ap₂ (λ (a b : ℕ). a * 2 ^ q + b)
        (xor_bit p (blank q r) q ∙ ap (differ (bit p q)) (blank_z q r h) ∙ differ_zero (bit p q))
        (xor_bit p (blank q r) 0 ∙ ap (differ (bit p 0)) (blank_x q r h) ∙ differ_zero (bit p 0))

pub rotate_rotate : (q p r : ℕ) → rotate q (rotate q p r) r ≡ p
unfolding rotate
rotate_rotate q p r = conj_conj q p (blank q r)

pub rotate_lt : (q p r : ℕ) → p < 2 ^ (q + q) → r < 2 ^ (q + q) → rotate q p r < 2 ^ (q + q)
unfolding rotate
rotate_lt q p r hp hr = conj_lt q (q + q) p (blank q r) hp (omega (arith, blank_le q r))

-- so a rotation leads from string to string
pub rotate_string : (q p r : ℕ) → p < 4 ^ q → r < 4 ^ q → rotate q p r < 4 ^ q
rotate_string q p r hp hr =
    let e = four_pow q in
    subst (λ (n : ℕ). rotate q p r < n) (sym e)
    (rotate_lt q p r (subst (λ (n : ℕ). p < n) e hp) (subst (λ (n : ℕ). r < n) e hr))

pub rotate_nonzero : (q p r : ℕ) → rotate q p r ≡ 0 → p ≡ 0
unfolding rotate
rotate_nonzero q p r e = conj_nonzero q p (blank q r) e
