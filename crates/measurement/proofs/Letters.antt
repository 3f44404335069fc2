-- The letters of a native's string, qubit by qubit: letter 1 stands on the first s qubits, letter 7 on the last s; where it has an X digit the
-- column's number is the X digit, where it has a Z digit the row's is the Z digit. By the digits of the string. Assumes nothing.
use mathlib.Core.Path.{◌≡◌, refl, sym, ap, ap₂, ◌∙◌}
use mathlib.Core.Logic.{⊎_elim}
use Prim.Native.Nat.{ℕ, zero, suc, ◌+◌, ◌*◌, ◌/◌, ◌%◌, ◌^◌, ◌<◌, ◌≤◌}
use native.Mathlib.Nat.{add_comm, mul_comm, mul_assoc, mul-add, mul-le-mul, mod-eq_of_lt, eq-or-lt_of_le}
use native.Mathlib.Omega.{arith}
use lib.Pow.{high, low, pow-add}
use Rattle.bicycle_common.specs.Letters.{x_of, z_of, letter}
use Rattle.bicycle_common.specs.Automorphisms.{inverse}
use Rattle.bicycle_common.specs.Ranges.{sum}
use Rattle.pauli_string.specs.Strings.{bit, letter_at}
use Rattle.pauli_string.proofs.Digits.{bit_zero, bit_high, bit_low}
use Rattle.native_measurement.specs.declared.NativeMeasurement.{NativeMeasurement}
use Rattle.measurement.specs.Matrices.{Matrix}
use Rattle.measurement.specs.Measures.{action, packed, first_column, first_row, placed, measured, spread}
use Rattle.measurement.proofs.Matrices.{packed_lt, action_binary}
use Rattle.measurement.proofs.Strings.{x_le, z_le, half_lt, column_lt, row_lt}

-- ---- packed digits

pub packed_suc : (s : ℕ) (f : ℕ → ℕ) → packed (suc s) f ≡ f s * 2 ^ s + packed s f
unfolding packed sum
packed_suc s f = add_comm (sum s (λ (i : ℕ). f i * 2 ^ i)) (f s * 2 ^ s)

bit_top : (a b s : ℕ) → a ≤ 1 → b < 2 ^ s → bit (a * 2 ^ s + b) s ≡ a
unfolding bit
bit_top a b s h l = ap (λ (n : ℕ). n % 2) (high a s l) ∙ mod-eq_of_lt (omega arith)

pub packed_none : (f : ℕ → ℕ) → 0 ≡ packed 0 f
unfolding packed sum
packed_none f = refl

-- a packed number's digits are what was packed
pub bit_packed : (s : ℕ) (f : ℕ → ℕ) → ((j : ℕ) → j < s → f j ≤ 1) → (j : ℕ) → j < s → bit (packed s f) j ≡ f j
bit_packed zero f h j l = omega arith
bit_packed (suc s) f h j l =
    let b : packed s f < 2 ^ s = packed_lt s f (λ i q. h i (omega arith)) in
    rw (packed_suc s f)
    (⊎_elim
    (λ (e : j ≡ s). rw e (bit_top (f s) (packed s f) s (h s (omega arith)) b))
    (λ (q : j < s). sym (bit_low (f s * 2 ^ s + packed s f) s j q) ∙ ap (λ (n : ℕ). bit n j) (low (f s) s b) ∙ bit_packed s f (λ i r. h i (omega arith)) j q)
    (eq-or-lt_of_le (omega arith)))

-- ---- a column or a row, placed once or twice

-- one half of the digits: c at the digit x, and s places higher at the digit y
abbrev twice : ℕ → ℕ → ℕ → ℕ → ℕ
twice s c x y = c * (x + 2 ^ s * y)

scaled_lt : (c P x : ℕ) → c < P → x ≤ 1 → c * x < P
scaled_lt c P x h hx = let a : c * x ≤ c * 1 = mul-le-mul {n₁ = c} {n₂ = c} (omega arith) hx in omega arith

twice_split : (s c x y : ℕ) → twice s c x y ≡ c * y * 2 ^ s + c * x
twice_split s c x y =
    mul-add c x (2 ^ s * y) ∙ add_comm (c * x) (c * (2 ^ s * y))
    ∙ ap (λ (t : ℕ). t + c * x) (ap (λ (t : ℕ). c * t) (mul_comm (2 ^ s) y) ∙ sym (mul_assoc c y (2 ^ s)))

scaled_bit : (c x i : ℕ) → x ≤ 1 → bit (c * x) i ≡ x * bit c i
scaled_bit c zero i h = let e : c * 0 ≡ 0 = omega arith in let z : 0 * bit c i ≡ 0 = omega arith in ap (λ (n : ℕ). bit n i) e ∙ bit_zero i ∙ sym z
scaled_bit c (suc zero) i h = let e : c * 1 ≡ c = omega arith in let z : 1 * bit c i ≡ bit c i = omega arith in ap (λ (n : ℕ). bit n i) e ∙ sym z
scaled_bit c (suc (suc x)) i h = absurd (omega arith)

first_half : (s c x y i : ℕ) → c < 2 ^ s → x ≤ 1 → i < s → bit (twice s c x y) i ≡ x * bit c i
first_half s c x y i h hx hi =
    sym (bit_low (twice s c x y) s i hi)
    ∙ ap (λ (n : ℕ). bit n i) (ap (λ (n : ℕ). n % 2 ^ s) (twice_split s c x y) ∙ low (c * y) s (scaled_lt c (2 ^ s) x h hx)) ∙ scaled_bit c x i hx

second_half : (s c x y i : ℕ) → c < 2 ^ s → x ≤ 1 → y ≤ 1 → bit (twice s c x y) (s + i) ≡ y * bit c i
second_half s c x y i h hx hy =
    sym (bit_high (twice s c x y) s i)
    ∙ ap (λ (n : ℕ). bit n i) (ap (λ (n : ℕ). n / 2 ^ s) (twice_split s c x y) ∙ high (c * y) s (scaled_lt c (2 ^ s) x h hx)) ∙ scaled_bit c y i hy

-- ---- the X digits and the Z digits of a string

module _ (s c r x1 z1 x7 z7 : ℕ) (hc : c < 2 ^ s) (hr : r < 2 ^ s) (hx1 : x1 ≤ 1) (hz1 : z1 ≤ 1) (hx7 : x7 ≤ 1) (hz7 : z7 ≤ 1) where
  string : ℕ
  string = placed s c r x1 z1 x7 z7

  split : string ≡ twice s r z1 z7 * 2 ^ (2 * s) + twice s c x1 x7
  unfolding string placed
  split = add_comm (twice s c x1 x7) (2 ^ (2 * s) * twice s r z1 z7) ∙ ap (λ (t : ℕ). t + twice s c x1 x7) (mul_comm (2 ^ (2 * s)) (twice s r z1 z7))

  x_lt : twice s c x1 x7 < 2 ^ (2 * s)
  x_lt =
      let two : 2 * s ≡ s + s = omega arith in
      let square : 2 ^ (2 * s) ≡ 2 ^ s * 2 ^ s = ap (λ (e : ℕ). 2 ^ e) two ∙ pow-add 2 s s in
      rw square (half_lt c (2 ^ s) x1 x7 hc hx1 hx7)

  x_digit : (i : ℕ) → i < 2 * s → bit string i ≡ bit (twice s c x1 x7) i
  x_digit i h = sym (bit_low string (2 * s) i h) ∙ ap (λ (n : ℕ). bit n i) (ap (λ (n : ℕ). n % 2 ^ (2 * s)) split ∙ low (twice s r z1 z7) (2 * s) x_lt)

  z_digit : (i : ℕ) → bit string (2 * s + i) ≡ bit (twice s r z1 z7) i
  z_digit i = sym (bit_high string (2 * s) i) ∙ ap (λ (n : ℕ). bit n i) (ap (λ (n : ℕ). n / 2 ^ (2 * s)) split ∙ high (twice s r z1 z7) (2 * s) x_lt)

  pub placed_first : (i : ℕ) → i < s → letter_at (2 * s) (placed s c r x1 z1 x7 z7) i ≡ letter (x1 * bit c i) (z1 * bit r i)
  unfolding letter_at string
  placed_first i h =
      ap₂ letter
      (x_digit i (omega arith) ∙ first_half s c x1 x7 i hc hx1 h)
      (z_digit i ∙ first_half s r z1 z7 i hr hz1 h)

  pub placed_last : (i : ℕ) → i < s → letter_at (2 * s) (placed s c r x1 z1 x7 z7) (s + i) ≡ letter (x7 * bit c i) (z7 * bit r i)
  unfolding letter_at string
  placed_last i h =
      ap₂ letter
      (x_digit (s + i) (omega arith) ∙ second_half s c x1 x7 i hc hx1 hx7)
      (z_digit (s + i) ∙ second_half s r z1 z7 i hr hz1 hz7)

-- ---- natives

module _ (s : ℕ) (z : 0 < s) (a b : Matrix) (m : NativeMeasurement) where
  column_digit : (i : ℕ) → i < s → bit (first_column s (action s a b (inverse m.automorphism))) i ≡ action s a b (inverse m.automorphism) i 0
  column_digit i h = bit_packed s _ (λ k hk. action_binary s a b (inverse m.automorphism) k 0 hk z) i h

  row_digit : (j : ℕ) → j < s → bit (first_row s (action s a b m.automorphism)) j ≡ action s a b m.automorphism 0 j
  row_digit j h = bit_packed s _ (λ k hk. action_binary s a b m.automorphism 0 k z hk) j h

  pub measured_first : (i : ℕ) → i < s → letter_at (2 * s) (measured s a b m) i ≡ spread s a b m m.logical.p1 i
  unfolding measured
  measured_first i h =
      placed_first s _ _ _ _ _ _ (column_lt s z a b m) (row_lt s z a b m)
      (x_le m.logical.p1 refl) (z_le m.logical.p1 refl) (x_le m.logical.p7 refl) (z_le m.logical.p7 refl) i h
      ∙ ap₂ (λ (u v : ℕ). letter (x_of m.logical.p1 * u) (z_of m.logical.p1 * v)) (column_digit i h) (row_digit i h)

  pub measured_last : (i : ℕ) → i < s → letter_at (2 * s) (measured s a b m) (s + i) ≡ spread s a b m m.logical.p7 i
  unfolding measured
  measured_last i h =
      placed_last s _ _ _ _ _ _ (column_lt s z a b m) (row_lt s z a b m)
      (x_le m.logical.p1 refl) (z_le m.logical.p1 refl) (x_le m.logical.p7 refl) (z_le m.logical.p7 refl) i h
      ∙ ap₂ (λ (u v : ℕ). letter (x_of m.logical.p7 * u) (z_of m.logical.p7 * v)) (column_digit i h) (row_digit i h)
