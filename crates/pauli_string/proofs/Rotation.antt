-- `rotation` and `logical_bits`: the words that the program makes, and that each undoes the other. Assumes nothing.
use mathlib.Core.Path.{◌≡◌, refl, sym, ap, ap₂, ◌∙◌, subst}
use mathlib.Core.Bool.{Bool, false, ◌&&◌}
use Prim.Native.Nat.{ℕ, zero, suc, ◌+◌, ◌-◌, ◌*◌, ◌/◌, ◌%◌, ◌^◌, ◌≤◌, ◌<◌}
use native.Mathlib.Nat.{mod-lt, mod-eq_of_lt, mul-div_cancel, lt_of_lt_of_le, mul_comm, mul_assoc}
use native.Mathlib.Numerals.{add-one}
use native.Mathlib.Omega.{arith}
use lib.Dec.{eqb, eqb-suc-zero, lit<}
use borrow.Author.Tests.{ne_eqb}
use lib.Arith.{digits_lt}
use lib.Pow.{pow_pos, split, shr_lt, shl_exact, shl_lt, shr-shr, pow-add, pow_mono, high, low}
use lib.Bits.{bit_and, bit_or, and_mask, or_shifted}
use Rattle.pauli_string.specs.Strings.{bit, blank, pivot_bits, has_pivot, logical_bits, rotation_of}
use Rattle.pauli_string.proofs.Digits.{even, half_lt, two_pos, bit_low, bit_high, bit_first, bit_double}
use Rattle.pauli_string.proofs.Range.{four_pow}
use Rattle.pauli_string.proofs.Pivot.{zero_parts, blank_halves, blank_same, pivot_le}

-- ---- the words, in w bits

pub logical_word : (w j p : ℕ) → p / 2 ^ (suc j + 1) * 2 ^ j < 2 ^ w
    → bit_or ((p / 2 ^ (suc j + 1) * 2 ^ j) % 2 ^ w) (bit_and p (2 ^ suc j - 1) / 2) ≡ logical_bits (suc j) p
unfolding logical_bits
logical_word w j p h =
    let k : suc j - 1 ≡ j = omega arith in
    ap₂ bit_or (mod-eq_of_lt h) (ap (λ (n : ℕ). n / 2) (and_mask p (suc j)))
    ∙ or_shifted (p / 2 ^ (suc j + 1)) j (p % 2 ^ suc j / 2) (half_lt j p)
    ∙ ap (λ (e : ℕ). p / 2 ^ (suc j + 1) * 2 ^ e + p % 2 ^ suc j / 2) (sym k)

pub rotation_word : (w j n : ℕ) → suc j + suc j ≤ w → n < 2 ^ (j + j)
    → bit_or ((n / 2 ^ j * 2 ^ (suc j + 1)) % 2 ^ w) ((bit_and n (2 ^ j - 1) * 2) % 2 ^ w) ≡ rotation_of (suc j) n
unfolding rotation_of
rotation_word w j n hw hn =
    let k : suc j - 1 ≡ j = omega arith in
    let hz : n / 2 ^ j < 2 ^ j = shr_lt j j hn in
    let hx : n % 2 ^ j < 2 ^ j = mod-lt n (pow_pos j) in
    let hx' : n % 2 ^ j * 2 < 2 ^ (j + 1) = shl_lt j 1 hx in
    ap₂ bit_or (shl_exact j (suc j + 1) w hz (omega arith)) (ap (λ (m : ℕ). (m * 2) % 2 ^ w) (and_mask n j) ∙ shl_exact j 1 w hx (omega arith))
    ∙ or_shifted (n / 2 ^ j) (suc j + 1) (n % 2 ^ j * 2) (lt_of_lt_of_le hx' (pow_mono (omega arith)))
    ∙ ap (λ (e : ℕ). n / 2 ^ e * 2 ^ (suc j + 1) + n % 2 ^ e * 2) (sym k)

-- ---- both by halves, at q = j + 1 letters

twice : (a j : ℕ) → a * 2 ^ (suc j + 1) ≡ a * 2 * 2 ^ suc j
twice a j = ap (λ (m : ℕ). a * m) (pow-add 2 (suc j) 1 ∙ mul_comm (2 ^ suc j) 2) ∙ sym (mul_assoc a 2 (2 ^ suc j))

rotation_halves : (j n : ℕ) → rotation_of (suc j) n ≡ n / 2 ^ j * 2 * 2 ^ suc j + n % 2 ^ j * 2
unfolding rotation_of
rotation_halves j n =
    let k : suc j - 1 ≡ j = omega arith in
    ap (λ (e : ℕ). n / 2 ^ e * 2 ^ (suc j + 1) + n % 2 ^ e * 2) k ∙ ap (λ (m : ℕ). m + n % 2 ^ j * 2) (twice (n / 2 ^ j) j)

low_lt : (j n : ℕ) → n % 2 ^ j * 2 < 2 ^ suc j
low_lt j n = subst (λ (e : ℕ). n % 2 ^ j * 2 < 2 ^ e) (add-one j) (shl_lt j 1 (mod-lt n (pow_pos j)))

rotation_hi : (j n : ℕ) → rotation_of (suc j) n / 2 ^ suc j ≡ n / 2 ^ j * 2
rotation_hi j n = ap (λ (m : ℕ). m / 2 ^ suc j) (rotation_halves j n) ∙ high (n / 2 ^ j * 2) (suc j) (low_lt j n)

rotation_lo : (j n : ℕ) → rotation_of (suc j) n % 2 ^ suc j ≡ n % 2 ^ j * 2
rotation_lo j n = ap (λ (m : ℕ). m % 2 ^ suc j) (rotation_halves j n) ∙ low (n / 2 ^ j * 2) (suc j) (low_lt j n)

logical_halves : (j p : ℕ) → logical_bits (suc j) p ≡ p / 2 ^ suc j / 2 * 2 ^ j + p % 2 ^ suc j / 2
unfolding logical_bits
logical_halves j p =
    let k : suc j - 1 ≡ j = omega arith in
    ap₂ (λ (m e : ℕ). m * 2 ^ e + p % 2 ^ suc j / 2) (sym (shr-shr p (suc j) 1)) k

-- ---- what `rotation` does to each digit: X digit i goes to i + 1, Z digit j + i to j + 1 + (i + 1), and the pivot is blank

pub rotation_x : (j n i : ℕ) → i < j → bit (rotation_of (suc j) n) (1 + i) ≡ bit n i
rotation_x j n i h =
    sym (bit_low (rotation_of (suc j) n) (suc j) (1 + i) (omega arith)) ∙ ap (λ (m : ℕ). bit m (1 + i)) (rotation_lo j n)
    ∙ bit_double (n % 2 ^ j) i ∙ bit_low n j i h

pub rotation_z : (j n i : ℕ) → bit (rotation_of (suc j) n) (suc j + (1 + i)) ≡ bit n (j + i)
rotation_z j n i =
    sym (bit_high (rotation_of (suc j) n) (suc j) (1 + i)) ∙ ap (λ (m : ℕ). bit m (1 + i)) (rotation_hi j n)
    ∙ bit_double (n / 2 ^ j) i ∙ bit_high n j i

pub rotation_pivot : (j n : ℕ) → pivot_bits (suc j) (rotation_of (suc j) n) ≡ 0
unfolding pivot_bits bit
rotation_pivot j n =
    let z : rotation_of (suc j) n / 2 ^ suc j % 2 ≡ 0 = ap (λ (m : ℕ). m % 2) (rotation_hi j n) ∙ even (n / 2 ^ j) in
    let x : rotation_of (suc j) n / 2 ^ 0 % 2 ≡ 0 =
    sym (bit_low (rotation_of (suc j) n) (suc j) 0 (omega arith)) ∙ ap (λ (m : ℕ). bit m 0) (rotation_lo j n) ∙ bit_first (n % 2 ^ j * 2) ∙ even (n % 2 ^ j) in
    ap₂ (λ (a b : ℕ). a * 2 ^ suc j + b) z x ∙ zero_sum (2 ^ suc j)
  where
    zero_sum : (m : ℕ) → 0 * m + 0 ≡ 0
    zero_sum m = omega arith

pub rotation_lt : (j n : ℕ) → n < 2 ^ (j + j) → rotation_of (suc j) n < 2 ^ (suc j + suc j)
rotation_lt j n h =
    let hi : n / 2 ^ j * 2 < 2 ^ suc j = subst (λ (e : ℕ). n / 2 ^ j * 2 < 2 ^ e) (add-one j) (shl_lt j 1 (shr_lt j j h)) in
    subst (λ (m : ℕ). m < 2 ^ (suc j + suc j)) (sym (rotation_halves j n))
    (subst (λ (m : ℕ). n / 2 ^ j * 2 * 2 ^ suc j + n % 2 ^ j * 2 < m) (sym (pow-add 2 (suc j) (suc j))) (digits_lt hi (low_lt j n)))

-- ---- each undoes the other

pub logical_rotation : (j n : ℕ) → logical_bits (suc j) (rotation_of (suc j) n) ≡ n
logical_rotation j n =
    logical_halves j (rotation_of (suc j) n)
    ∙ ap₂ (λ (a b : ℕ). a / 2 * 2 ^ j + b / 2) (rotation_hi j n) (rotation_lo j n)
    ∙ ap₂ (λ (a b : ℕ). a * 2 ^ j + b) (mul-div_cancel (n / 2 ^ j) two_pos) (mul-div_cancel (n % 2 ^ j) two_pos)
    ∙ split n j

-- the other way round only the letters above the pivot come back
pub rotation_logical : (j p : ℕ) → rotation_of (suc j) (logical_bits (suc j) p) ≡ blank (suc j) p
rotation_logical j p =
    let a : ℕ = p / 2 ^ suc j / 2 in
    let b : ℕ = p % 2 ^ suc j / 2 in
    let h : b < 2 ^ j = half_lt j p in
    ap (rotation_of (suc j)) (logical_halves j p)
    ∙ rotation_halves j (a * 2 ^ j + b)
    ∙ ap₂ (λ (m n : ℕ). m * 2 * 2 ^ suc j + n * 2) (high a j h) (low a j h)
    ∙ sym (blank_halves (suc j) p (omega arith))

-- so all of a string with a blank pivot
pub rotation_logical_blank : (j p : ℕ) → has_pivot (suc j) p ≡ false → rotation_of (suc j) (logical_bits (suc j) p) ≡ p
rotation_logical_blank j p h = rotation_logical j p ∙ blank_same (suc j) p h

-- a string is its pivot letter and the letters above it; for no letter at all too
pub pivot_logical : (q p : ℕ) → p < 4 ^ q → (logical_bits q p < 4 ^ (q - 1)) × (rotation_of q (logical_bits q p) + pivot_bits q p ≡ p)
pivot_logical zero p h = none p (omega arith)
  where
    zeros : (logical_bits 0 0 < 4 ^ (0 - 1)) × (rotation_of 0 (logical_bits 0 0) + pivot_bits 0 0 ≡ 0)
    zeros = unfold logical_bits rotation_of pivot_bits bit in (lit< tt, refl)

    none : (p : ℕ) → p ≡ 0 → (logical_bits 0 p < 4 ^ (0 - 1)) × (rotation_of 0 (logical_bits 0 p) + pivot_bits 0 p ≡ p)
    none p e = subst (λ (p : ℕ). (logical_bits 0 p < 4 ^ (0 - 1)) × (rotation_of 0 (logical_bits 0 p) + pivot_bits 0 p ≡ p)) (sym e) zeros
pivot_logical (suc j) p h = (below, whole)
  where
    hp : p < 2 ^ (suc j + suc j)
    hp = subst (λ (n : ℕ). p < n) (four_pow (suc j)) h

    hi : p / 2 ^ suc j / 2 < 2 ^ j
    hi = shr_lt j 1 (subst (λ (e : ℕ). p / 2 ^ suc j < 2 ^ e) (sym (add-one j)) (shr_lt (suc j) (suc j) hp))

    below : logical_bits (suc j) p < 4 ^ (suc j - 1)
    below =
        let k : suc j - 1 ≡ j = omega arith in
        rw (k, four_pow j, pow-add 2 j j, logical_halves j p) (digits_lt hi (half_lt j p))

    whole : rotation_of (suc j) (logical_bits (suc j) p) + pivot_bits (suc j) p ≡ p
    whole =
        let e : blank (suc j) p ≡ p - pivot_bits (suc j) p = unfold blank in refl in
        omega (arith, rotation_logical j p, e, pivot_le (suc j) p (omega arith))

-- a letter stands above the pivot where the logical digits are not all zero
pub logical_zero : (j p : ℕ) → eqb (logical_bits (suc j) p) 0 ≡ eqb (blank (suc j) p) 0
logical_zero j p =
    let a : ℕ = p / 2 ^ suc j / 2 in
    let b : ℕ = p % 2 ^ suc j / 2 in
    ap (λ (n : ℕ). eqb n 0) (logical_halves j p) ∙ zero_parts a b (2 ^ j) (pow_pos j)
    ∙ sym
    (ap (λ (n : ℕ). eqb n 0) (blank_halves (suc j) p (omega arith)) ∙ zero_parts (a * 2) (b * 2) (2 ^ suc j) (pow_pos (suc j))
    ∙ ap₂ (λ (s t : Bool). s && t) (double_zero a) (double_zero b))
  where
    double_zero : (n : ℕ) → eqb (n * 2) 0 ≡ eqb n 0
    double_zero zero = refl
    double_zero (suc n) = ne_eqb (suc n * 2) 0 (λ e. omega arith) ∙ sym (eqb-suc-zero n)
