-- One digit of a number read, set or cleared, and digits put together, by the bit operations; and what a set digit, or a set letter,
-- leaves. Assumes nothing.
use mathlib.Core.Path.{◌≡◌, refl, sym, ap, ap₂, ◌∙◌, subst}
use mathlib.Core.Bool.{Bool, true, false}
use Prim.Native.Nat.{ℕ, ◌+◌, ◌-◌, ◌*◌, ◌/◌, ◌%◌, ◌^◌, ◌≤◌, ◌<◌}
use native.Mathlib.Nat.{mod-lt, mod-eq_of_lt, add-mul, add-zero, add_comm}
use native.Mathlib.Omega.{arith}
use lib.Arith.{digits_lt}
use lib.Dec.{lit<, eqb, ltb, eqb→eq}
use lib.Pow.{pow_pos, pow-add, pow_mono, split, shr_lt, shr_mod, shl_exact, ones_lt, high, low}
use lib.Bits.{bit_and, bit_or, and_block, and_mask, and_high, or_block, or_step, or_zero_r, or_shifted}
use borrow.Author.Tests.{ltb-true, ltb-false}
use Rattle.bicycle_common.specs.declared.Pauli.{Pauli}
use Rattle.bicycle_common.specs.Letters.{flag, x_of, z_of, letter}
use Rattle.bicycle_common.proofs.Tests.{at_bit}
use Rattle.bicycle_common.proofs.Letters.{x_of_lt, z_of_lt, letter_digits}
use Rattle.pauli_string.specs.Strings.{bit, set_bit, letter_at, set_letter}
use Rattle.pauli_string.proofs.Digits.{halved, bit_lt, bit_high, bit_low}

-- the digit d at the place of weight P becomes b
set_split : (n P h r b : ℕ) → n ≡ h * P + r → (h / 2 * 2 + b) * P + r ≡ n - h % 2 * P + b * P
set_split n P h r b e =
    omega (arith, halved h P, add-mul (h / 2 * 2) b P)

or_one : (h : ℕ) → bit_or h 1 ≡ h / 2 * 2 + 1
or_one h = or_step h 1 ∙ ap₂ (λ (a b : ℕ). a * 2 + b) (or_zero_r (h / 2)) (omega arith)

one_shifted : (w i : ℕ) → i < w → (1 * 2 ^ i) % 2 ^ w ≡ 1 * 2 ^ i
one_shifted w i h = shl_exact 1 i w (lit< tt) (omega arith)

-- `n | 1 << i` in w bits
pub set_one : (w i n : ℕ) → i < w → bit_or n ((1 * 2 ^ i) % 2 ^ w) ≡ set_bit n i 1
unfolding set_bit bit
set_one w i n h =
    ap₂ bit_or (sym (split n i)) (one_shifted w i h ∙ sym (add-zero (1 * 2 ^ i)))
    ∙ or_block i (n / 2 ^ i) 1 (n % 2 ^ i) 0 (mod-lt n (pow_pos i)) (pow_pos i)
    ∙ ap₂ (λ (a b : ℕ). a * 2 ^ i + b) (or_one (n / 2 ^ i)) (or_zero_r (n % 2 ^ i))
    ∙ set_split n (2 ^ i) (n / 2 ^ i) (n % 2 ^ i) 1 (sym (split n i))

clear_mask : (j i : ℕ) → 2 ^ (j + 1 + i) - 1 - 1 * 2 ^ i ≡ (2 ^ (j + 1) - 2 ^ 1) * 2 ^ i + (2 ^ i - 1)
clear_mask j i =
    let e : 2 ^ (j + 1 + i) ≡ 2 ^ (j + 1) * 2 ^ i = pow-add 2 (j + 1) i in
    let k : 2 ≤ 2 ^ (j + 1) = pow_mono {i = 1} {j = j + 1} (omega arith) in
    let a : 2 ^ (j + 1) ≡ (2 ^ (j + 1) - 2) + 2 = omega arith in
    let d : 2 ^ (j + 1) * 2 ^ i ≡ (2 ^ (j + 1) - 2) * 2 ^ i + 2 * 2 ^ i = ap (λ (m : ℕ). m * 2 ^ i) a ∙ add-mul (2 ^ (j + 1) - 2) 2 (2 ^ i) in
    omega (arith, pow_pos i)

clear_at : (j i n : ℕ) → n < 2 ^ (j + 1 + i) → bit_and n (2 ^ (j + 1 + i) - 1 - 1 * 2 ^ i) ≡ set_bit n i 0
unfolding set_bit bit
clear_at j i n h =
    let hr : n % 2 ^ i < 2 ^ i = mod-lt n (pow_pos i) in
    ap₂ bit_and (sym (split n i)) (clear_mask j i)
    ∙ and_block i (n / 2 ^ i) (2 ^ (j + 1) - 2 ^ 1) (n % 2 ^ i) (2 ^ i - 1) hr (ones_lt i)
    ∙ ap₂ (λ (a b : ℕ). a * 2 ^ i + b)
    (and_high (n / 2 ^ i) j 1 ∙ ap (λ (m : ℕ). m * 2) (shr_mod j 1 (shr_lt (j + 1) i h)) ∙ sym (add-zero (n / 2 ^ i / 2 * 2)))
    (and_mask (n % 2 ^ i) i ∙ mod-eq_of_lt hr)
    ∙ set_split n (2 ^ i) (n / 2 ^ i) (n % 2 ^ i) 0 (sym (split n i))

-- `n & !(1 << i)` in w bits
pub set_zero : (w i n : ℕ) → i < w → n < 2 ^ w → bit_and n (2 ^ w - 1 - (1 * 2 ^ i) % 2 ^ w) ≡ set_bit n i 0
set_zero w i n h hn =
    let e : w ≡ (w - 1 - i) + 1 + i = omega arith in
    ap (λ (m : ℕ). bit_and n (2 ^ w - 1 - m)) (one_shifted w i h)
    ∙ ap (λ (m : ℕ). bit_and n (2 ^ m - 1 - 1 * 2 ^ i)) e
    ∙ clear_at (w - 1 - i) i n (subst (λ (m : ℕ). n < 2 ^ m) e hn)

-- `(n >> i) & 1 == 1`
pub get_one : (n i : ℕ) → eqb (bit_and (n / 2 ^ i) 1) 1 ≡ eqb (bit n i) 1
unfolding bit
get_one n i = ap (λ (m : ℕ). eqb m 1) (and_mask (n / 2 ^ i) 1)

flag_of : (b : ℕ) → b < 2 → b ≡ flag (eqb b 1)
flag_of b h = eqb→eq _ _ (at_bit (λ d. eqb d (flag (eqb d 1))) tt b h)

-- a letter from the two tests of its digits
pub letter_at_law : (q p i : ℕ) (a b : Bool) → eqb (bit p i) 1 ≡ a → eqb (bit p (i + q)) 1 ≡ b → letter_at q p i ≡ letter (flag a) (flag b)
unfolding letter_at
letter_at_law q p i a b ea eb =
    ap₂ letter
    (flag_of (bit p i) (bit_lt p i) ∙ ap flag ea)
    (ap (bit p) (add_comm q i) ∙ flag_of (bit p (i + q)) (bit_lt p (i + q)) ∙ ap flag eb)

-- `z << q | x` in w bits
pub join : (w q z x : ℕ) → q + q ≤ w → z < 2 ^ q → x < 2 ^ q → bit_or ((z * 2 ^ q) % 2 ^ w) x ≡ z * 2 ^ q + x
join w q z x h hz hx = ap (λ (m : ℕ). bit_or m x) (shl_exact q q w hz h) ∙ or_shifted z q x hx

-- ---- what a set digit, and a set letter, leave

-- the digits above i, the digit at i, the digits below
set_parts : (n i b : ℕ) → set_bit n i b ≡ (n / 2 ^ i / 2 * 2 + b) * 2 ^ i + n % 2 ^ i
unfolding set_bit bit
set_parts n i b = sym (set_split n (2 ^ i) (n / 2 ^ i) (n % 2 ^ i) b (sym (split n i)))

set_high : (n i b : ℕ) → set_bit n i b / 2 ^ i ≡ n / 2 ^ i / 2 * 2 + b
set_high n i b = ap (λ (m : ℕ). m / 2 ^ i) (set_parts n i b) ∙ high (n / 2 ^ i / 2 * 2 + b) i (mod-lt n (pow_pos i))

set_low : (n i b : ℕ) → set_bit n i b % 2 ^ i ≡ n % 2 ^ i
set_low n i b = ap (λ (m : ℕ). m % 2 ^ i) (set_parts n i b) ∙ low (n / 2 ^ i / 2 * 2 + b) i (mod-lt n (pow_pos i))

pub set_same : (n i b : ℕ) → b < 2 → bit (set_bit n i b) i ≡ b
unfolding bit
set_same n i b h = ap (λ (m : ℕ). m % 2) (set_high n i b) ∙ low (n / 2 ^ i / 2) 1 h

set_below : (n i b k : ℕ) → k < i → bit (set_bit n i b) k ≡ bit n k
set_below n i b k h = sym (bit_low (set_bit n i b) i k h) ∙ ap (λ (m : ℕ). bit m k) (set_low n i b) ∙ bit_low n i k h

set_above : (n i b j : ℕ) → b < 2 → bit (set_bit n i b) (i + (1 + j)) ≡ bit n (i + (1 + j))
set_above n i b j h =
    sym (bit_high (set_bit n i b) i (1 + j)) ∙ ap (λ (m : ℕ). bit m (1 + j)) (set_high n i b)
    ∙ sym (bit_high (n / 2 ^ i / 2 * 2 + b) 1 j) ∙ ap (λ (m : ℕ). bit m j) (high (n / 2 ^ i / 2) 1 h)
    ∙ bit_high (n / 2 ^ i) 1 j ∙ bit_high n i (1 + j)

pub set_other : (n i b k : ℕ) → b < 2 → (k ≡ i → ⊥) → bit (set_bit n i b) k ≡ bit n k
set_other n i b k hb h = go (ltb k i) refl
  where
    go : (t : Bool) → ltb k i ≡ t → bit (set_bit n i b) k ≡ bit n k
    go true e = set_below n i b k (ltb-true k i e)
    go false e =
        let j : i + (1 + (k - i - 1)) ≡ k = omega (arith, ltb-false k i e) in
        subst (λ (m : ℕ). bit (set_bit n i b) m ≡ bit n m) j (set_above n i b (k - i - 1) hb)

pub set_lt : (m n i b : ℕ) → i < m → b < 2 → n < 2 ^ m → set_bit n i b < 2 ^ m
set_lt m n i b hi hb h =
    let e : m ≡ (m - 1 - i) + 1 + i = omega arith in
    let k : n / 2 ^ i / 2 < 2 ^ (m - 1 - i) = shr_lt (m - 1 - i) 1 (shr_lt (m - 1 - i + 1) i (subst (λ (w : ℕ). n < 2 ^ w) e h)) in
    let d : n / 2 ^ i / 2 * 2 + b < 2 ^ (m - 1 - i) * 2 = digits_lt k hb in
    let u : n / 2 ^ i / 2 * 2 + b < 2 ^ (m - 1 - i + 1) = subst (λ (w : ℕ). n / 2 ^ i / 2 * 2 + b < w) (sym (pow-add 2 (m - 1 - i) 1)) d in
    subst (λ (w : ℕ). w < 2 ^ m) (sym (set_parts n i b))
    (subst (λ (w : ℕ). (n / 2 ^ i / 2 * 2 + b) * 2 ^ i + n % 2 ^ i < 2 ^ w) (sym e)
    (subst (λ (w : ℕ). (n / 2 ^ i / 2 * 2 + b) * 2 ^ i + n % 2 ^ i < w) (sym (pow-add 2 (m - 1 - i + 1) i)) (digits_lt u (mod-lt n (pow_pos i)))))

-- the letter that was set stands at its qubit
pub set_letter_same : (q p i : ℕ) (l : Pauli) → i < q → letter_at q (set_letter q p i l) i ≡ l
unfolding letter_at set_letter
set_letter_same q p i l h =
    ap₂ letter
    (set_other (set_bit p i (x_of l)) (q + i) (z_of l) i (z_of_lt l) (λ e. omega arith) ∙ set_same p i (x_of l) (x_of_lt l))
    (set_same (set_bit p i (x_of l)) (q + i) (z_of l) (z_of_lt l))
    ∙ letter_digits l

-- and every other letter stays
pub set_letter_other : (q p i k : ℕ) (l : Pauli) → i < q → k < q → (k ≡ i → ⊥) → letter_at q (set_letter q p i l) k ≡ letter_at q p k
unfolding letter_at set_letter
set_letter_other q p i k l hi hk h =
    ap₂ letter
    (set_other (set_bit p i (x_of l)) (q + i) (z_of l) k (z_of_lt l) (λ e. omega arith) ∙ set_other p i (x_of l) k (x_of_lt l) h)
    (set_other (set_bit p i (x_of l)) (q + i) (z_of l) (q + k) (z_of_lt l) (λ e. h (omega arith)) ∙ set_other p i (x_of l) (q + k) (x_of_lt l) (λ e. omega arith))

pub set_letter_lt : (q p i : ℕ) (l : Pauli) → i < q → p < 2 ^ (q + q) → set_letter q p i l < 2 ^ (q + q)
unfolding set_letter
set_letter_lt q p i l h hp =
    set_lt (q + q) (set_bit p i (x_of l)) (q + i) (z_of l) (omega arith) (z_of_lt l) (set_lt (q + q) p i (x_of l) (omega arith) (x_of_lt l) hp)
