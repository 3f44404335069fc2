-- Vectors modulo 2 packed into words: a word is its digits, exclusive or adds them, and a word taken through the rows of a matrix n times is
-- the vector times the n-th power. By the sums of three rows and of the other three it goes through all six. Assumes nothing.
use mathlib.Core.List.{List, [], ◌∷◌}
use mathlib.Core.Path.{◌≡◌, refl, sym, ap, ap₂, ◌∙◌}
use Prim.Native.Nat.{ℕ, zero, suc, ◌+◌, ◌-◌, ◌*◌, ◌/◌, ◌%◌, ◌^◌, ◌<◌, ◌≤◌}
use native.Mathlib.Nat.{mod-lt, mul_assoc, mod-eq_of_lt, zero-mul, one-mul}
use native.Mathlib.Numerals.{one-add}
use native.Mathlib.Omega.{arith}
use lib.Arith.{lt-one}
use lib.Pow.{pow_pos, mod-pow-add}
use lib.Bits.{bit_xor, xor_block, xor_zero_l, xor_zero_r, xor_lt}
use Rattle.bicycle_common.specs.Ranges.{sum}
use Rattle.bicycle_common.proofs.Ranges.{sum_same}
use Rattle.pauli_string.specs.Strings.{bit}
use Rattle.pauli_string.proofs.Digits.{bit_lt}
use Rattle.measurement.specs.Matrices.{Matrix, mul, pow, Binary}
use Rattle.measurement.specs.Measures.{packed}
use Rattle.measurement.proofs.Matrices.{product_le, packed_same, packed_lt, mul_binary}
use Rattle.measurement.proofs.Letters.{packed_suc, packed_none, bit_packed}
use Rattle.measurement.proofs.Algebra.{sum_scale, assoc, one_right}
use Rattle.natives.specs.Arrays.{at}
use Rattle.natives.specs.Packed.{xors, combined, iterated, Words, Sums, SmallSums, stepped, walked}

-- ---- digits

pub bit_le : (n i : ℕ) → bit n i ≤ 1
bit_le n i = omega (arith, bit_lt n i)

-- a number is its digits, packed
bits_mod : (s n : ℕ) → n % 2 ^ s ≡ packed s (bit n)
unfolding bit
bits_mod zero n = lt-one (mod-lt n (pow_pos zero)) ∙ packed_none (bit n)
bits_mod (suc s) n =
    ap (λ (m : ℕ). n % 2 ^ m) (sym (one-add s)) ∙ mod-pow-add n 1 s ∙ ap (λ (m : ℕ). n / 2 ^ s % 2 * 2 ^ s + m) (bits_mod s n)
    ∙ sym (packed_suc s (bit n))

pub packed_bits : (s n : ℕ) → n < 2 ^ s → n ≡ packed s (bit n)
packed_bits s n h = sym (mod-eq_of_lt h) ∙ bits_mod s n

-- ---- exclusive or

xor_one : (a b : ℕ) → a ≤ 1 → b ≤ 1 → bit_xor a b ≡ (a + b) % 2
xor_one zero zero h k = refl
xor_one zero (suc zero) h k = refl
xor_one (suc zero) zero h k = refl
xor_one (suc zero) (suc zero) h k = refl
xor_one (suc (suc a)) b h k = absurd (omega arith)
xor_one zero (suc (suc b)) h k = absurd (omega arith)
xor_one (suc zero) (suc (suc b)) h k = absurd (omega arith)

pub packed_xor : (s : ℕ) (f g : ℕ → ℕ) → ((j : ℕ) → j < s → f j ≤ 1) → ((j : ℕ) → j < s → g j ≤ 1)
    → bit_xor (packed s f) (packed s g) ≡ packed s (λ (j : ℕ). (f j + g j) % 2)
packed_xor zero f g hf hg = ap₂ bit_xor (sym (packed_none f)) (sym (packed_none g)) ∙ packed_none (λ (j : ℕ). (f j + g j) % 2)
packed_xor (suc s) f g hf hg =
    ap₂ bit_xor (packed_suc s f) (packed_suc s g)
    ∙ xor_block s (f s) (g s) (packed s f) (packed s g) (packed_lt s f (λ i q. hf i (omega arith))) (packed_lt s g (λ i q. hg i (omega arith)))
    ∙ ap₂ (λ (a b : ℕ). a * 2 ^ s + b) (xor_one (f s) (g s) (hf s (omega arith)) (hg s (omega arith))) (packed_xor s f g (λ i q. hf i (omega arith)) (λ i q. hg i (omega arith)))
    ∙ sym (packed_suc s (λ (j : ℕ). (f j + g j) % 2))

packed_zero : (s : ℕ) → 0 ≡ packed s (λ (j : ℕ). 0)
packed_zero zero = packed_none (λ (j : ℕ). 0)
packed_zero (suc s) = let e : packed s (λ (j : ℕ). 0) ≡ 0 * 2 ^ s + packed s (λ (j : ℕ). 0) = omega arith in packed_zero s ∙ e ∙ sym (packed_suc s (λ (j : ℕ). 0))

-- many packed numbers by xor: sums modulo 2, digit by digit
pub xors_packed : (s n : ℕ) (F : ℕ → ℕ → ℕ) → ((k j : ℕ) → F k j ≤ 1)
    → xors n (λ (k : ℕ). packed s (F k)) ≡ packed s (λ (j : ℕ). sum n (λ (k : ℕ). F k j) % 2)
unfolding xors sum
xors_packed s zero F h = packed_zero s
xors_packed s (suc n) F h =
    ap (λ (m : ℕ). bit_xor m (packed s (F n))) (xors_packed s n F h)
    ∙ packed_xor s _ (F n) (λ j l. omega arith) (λ j l. h n j)
    ∙ packed_same s (λ j l. omega arith)

xors_same : (n : ℕ) (f g : ℕ → ℕ) → ((k : ℕ) → k < n → f k ≡ g k) → xors n f ≡ xors n g
unfolding xors
xors_same zero f g h = refl
xors_same (suc n) f g h = ap₂ bit_xor (xors_same n f g (λ k l. h k (omega arith))) (h n (omega arith))

packed_scale : (s e : ℕ) (f : ℕ → ℕ) → e * packed s f ≡ packed s (λ (j : ℕ). e * f j)
unfolding packed
packed_scale s e f = sym (sum_same s _ _ (λ i hi. mul_assoc e (f i) (2 ^ i)) ∙ sum_scale s e (λ (i : ℕ). f i * 2 ^ i))

-- a packed vector through n packed rows
combined_rows : (s n : ℕ) (R : ℕ → ℕ) (v : ℕ) → ((k : ℕ) → k < n → R k < 2 ^ s)
    → combined n R v ≡ packed s (λ (j : ℕ). sum n (λ (k : ℕ). bit v k * bit (R k) j) % 2)
unfolding combined
combined_rows s n R v h =
    xors_same n _ _ (λ k l. ap (λ (m : ℕ). bit v k * m) (packed_bits s (R k) (h k l)) ∙ packed_scale s (bit v k) (bit (R k)))
    ∙ xors_packed s n (λ (k j : ℕ). bit v k * bit (R k) j) (λ k j. product_le _ _ (bit_le v k) (bit_le (R k) j))

pub rows_lt : (s n : ℕ) (R : ℕ → ℕ) (v : ℕ) → ((k : ℕ) → k < n → R k < 2 ^ s) → combined n R v < 2 ^ s
rows_lt s n R v h = rw (combined_rows s n R v h) (packed_lt s _ (λ j l. omega arith))

pub iterated_lt : (s : ℕ) (R : ℕ → ℕ) (v : ℕ) → ((k : ℕ) → k < s → R k < 2 ^ s) → v < 2 ^ s → (n : ℕ) → iterated s R v n < 2 ^ s
unfolding iterated
iterated_lt s R v h l zero = l
iterated_lt s R v h l (suc n) = rows_lt s s R _ h

-- ---- the first row of a product

module _ (s : ℕ) (z : 0 < s) (R : ℕ → ℕ) (h : (k : ℕ) → k < s → R k < 2 ^ s) where
  abbrev rows_of : Matrix
  rows_of i j = bit (R i) j

  row_step : (A : Matrix) → Binary s A → combined s R (packed s (λ (j : ℕ). A 0 j)) ≡ packed s (λ (j : ℕ). mul s A rows_of 0 j)
  unfolding mul
  row_step A b =
      combined_rows s s R _ h
      ∙ packed_same s (λ j l. ap (λ (t : ℕ). t % 2) (sum_same s _ _ (λ k q. ap (λ (t : ℕ). t * bit (R k) j) (bit_packed s (λ (j : ℕ). A 0 j) (λ i r. b 0 i z r) k q))))

  pub row_iterated : (A : Matrix) → Binary s A → (n : ℕ) → iterated s R (packed s (λ (j : ℕ). A 0 j)) n ≡ packed s (λ (j : ℕ). mul s A (pow s rows_of n) 0 j)
  unfolding iterated pow
  row_iterated A b zero = packed_same s (λ j l. sym (one_right s A b 0 j z l))
  row_iterated A b (suc n) =
      ap (combined s R) (row_iterated A b n) ∙ row_step (mul s A (pow s rows_of n)) (mul_binary s A (pow s rows_of n))
      ∙ packed_same s (λ j l. assoc s A (pow s rows_of n) rows_of 0 j z l)

-- ---- sums of three words, and of the other three

abbrev tail : (ℕ → ℕ) → ℕ → ℕ
tail R k = R (3 + k)

-- the eight sums, written out
pub eight : (a b c j : ℕ) → j < 8
    → at (0 ∷ a ∷ b ∷ bit_xor a b ∷ c ∷ bit_xor a c ∷ bit_xor b c ∷ bit_xor (bit_xor a b) c ∷ []) j ≡ combined 3 (at (a ∷ b ∷ c ∷ [])) j
unfolding combined xors bit
eight a b c zero h = simp (zero-mul, xor_zero_l) refl
eight a b c (suc zero) h = simp (zero-mul, one-mul, xor_zero_r) refl
eight a b c (suc (suc zero)) h = simp (zero-mul, one-mul, xor_zero_l, xor_zero_r) refl
eight a b c (suc (suc (suc zero))) h = simp (zero-mul, one-mul, xor_zero_r) refl
eight a b c (suc (suc (suc (suc zero)))) h = simp (zero-mul, one-mul, xor_zero_l) refl
eight a b c (suc (suc (suc (suc (suc zero))))) h = simp (zero-mul, one-mul, xor_zero_r) refl
eight a b c (suc (suc (suc (suc (suc (suc zero)))))) h = simp (zero-mul, one-mul, xor_zero_l) refl
eight a b c (suc (suc (suc (suc (suc (suc (suc zero))))))) h = simp one-mul refl
eight a b c (suc (suc (suc (suc (suc (suc (suc (suc j)))))))) h = absurd (omega arith)

parity : (a b c d e f : ℕ) → ((0 + a + b + c) % 2 + (0 + d + e + f) % 2) % 2 ≡ (0 + a + b + c + d + e + f) % 2
parity a b c d e f = omega arith

-- the digits of v % 8 and of v / 8
low_0 : (v : ℕ) → v % 8 / 1 % 2 ≡ v / 1 % 2
low_0 v = omega arith

low_1 : (v : ℕ) → v % 8 / 2 % 2 ≡ v / 2 % 2
low_1 v = omega arith

low_2 : (v : ℕ) → v % 8 / 4 % 2 ≡ v / 4 % 2
low_2 v = omega arith

high_0 : (v : ℕ) → v / 8 / 1 % 2 ≡ v / 8 % 2
high_0 v = omega arith

high_1 : (v : ℕ) → v / 8 / 2 % 2 ≡ v / 16 % 2
high_1 v = omega arith

high_2 : (v : ℕ) → v / 8 / 4 % 2 ≡ v / 32 % 2
high_2 v = omega arith

-- sums of six are sums of three and of the other three
six_sum : (R : ℕ → ℕ) (v j : ℕ)
    → (sum 3 (λ (k : ℕ). bit (v % 8) k * bit (R k) j) % 2 + sum 3 (λ (k : ℕ). bit (v / 8) k * bit (R (3 + k)) j) % 2) % 2
    ≡ sum 6 (λ (k : ℕ). bit v k * bit (R k) j) % 2
unfolding sum bit
six_sum R v j = rw (low_0 v, low_1 v, low_2 v, high_0 v, high_1 v, high_2 v) (parity _ _ _ _ _ _)

module _ (R : ℕ → ℕ) (h : (k : ℕ) → k < 6 → R k < 64) (lo hi : List ℕ) (sl : Sums 3 R lo) (sh : Sums 3 (tail R) hi) where
  step_combined : (v : ℕ) → v < 64 → stepped lo hi v ≡ combined 6 R v
  step_combined v l =
      ap₂ bit_xor
      (sl.1 (v % 8) (omega arith) ∙ combined_rows 6 3 R (v % 8) (λ k q. h k (omega arith)))
      (sh.1 (v / 8) (omega arith) ∙ combined_rows 6 3 (tail R) (v / 8) (λ k q. h (3 + k) (omega arith)))
      ∙ packed_xor 6 _ _ (λ j q. omega arith) (λ j q. omega arith)
      ∙ packed_same 6 (λ j q. six_sum R v j)
      ∙ sym (combined_rows 6 6 R v h)

  walked_iterated : (v : ℕ) → v < 64 → (t : ℕ) → walked lo hi v t ≡ iterated 6 R v t
  unfolding walked iterated
  walked_iterated v l zero = refl
  walked_iterated v l (suc t) = ap (stepped lo hi) (walked_iterated v l t) ∙ step_combined (iterated 6 R v t) (iterated_lt 6 R v h l t)

sums_same : (f g : ℕ → ℕ) → ((k : ℕ) → k < 3 → f k ≡ g k) → (l : List ℕ) → Sums 3 f l → Sums 3 g l
unfolding combined
sums_same f g h l s = (s.0, λ j q. s.1 j q ∙ xors_same 3 _ _ (λ k i. ap (λ (x : ℕ). bit j k * x) (h k i)))

sums_small : (R : ℕ → ℕ) → ((k : ℕ) → k < 3 → R k < 64) → (l : List ℕ) → Sums 3 R l → SmallSums l
sums_small R h l s = (s.0, λ j q. rw (s.1 j q) (rows_lt 6 3 R j h))

pub walked_lt : (lo hi : List ℕ) → SmallSums lo → SmallSums hi → (v : ℕ) → v < 64 → (t : ℕ) → walked lo hi v t < 64
unfolding walked
walked_lt lo hi sl sh v l zero = l
walked_lt lo hi sl sh v l (suc t) =
    let w = walked lo hi v t in
    let b = walked_lt lo hi sl sh v l t in
    xor_lt 6 _ _ (sl.1 (w % 8) (omega arith)) (sh.1 (w / 8) (omega arith))

pub walked_first : (lo hi : List ℕ) (v t : ℕ) → t < 1 → at (v ∷ v ∷ v ∷ v ∷ v ∷ v ∷ []) t ≡ walked lo hi v t
unfolding walked
walked_first lo hi v zero h = refl
walked_first lo hi v (suc t) h = absurd (omega arith)

pub walked_next : (lo hi : List ℕ) (v i x : ℕ) → 0 < i → x ≡ walked lo hi v (i - 1) → stepped lo hi x ≡ walked lo hi v i
unfolding walked
walked_next lo hi v zero x h e = absurd (omega arith)
walked_next lo hi v (suc i) x h e = let z : suc i - 1 ≡ i = omega arith in ap (stepped lo hi) (e ∙ ap (walked lo hi v) z)

below_three : (P : ℕ → Type 0) → P 0 → P 1 → P 2 → (k : ℕ) → k < 3 → P k
below_three P a b c zero h = a
below_three P a b c (suc zero) h = b
below_three P a b c (suc (suc zero)) h = c
below_three P a b c (suc (suc (suc k))) h = absurd (omega arith)

-- the words of r three by three
module _ (r : List ℕ) (h : Words r) (lo hi : List ℕ) (sl : Sums 3 (at (at r 0 ∷ at r 1 ∷ at r 2 ∷ [])) lo) (sh : Sums 3 (at (at r 3 ∷ at r 4 ∷ at r 5 ∷ [])) hi) where
  pub low_small : SmallSums lo
  low_small = sums_small _ (below_three _ (h 0 (omega arith)) (h 1 (omega arith)) (h 2 (omega arith))) lo sl

  pub high_small : SmallSums hi
  high_small = sums_small _ (below_three _ (h 3 (omega arith)) (h 4 (omega arith)) (h 5 (omega arith))) hi sh

  pub through : (v t : ℕ) → v < 64 → walked lo hi v t ≡ iterated 6 (at r) v t
  through v t l =
      walked_iterated (at r) h lo hi
      (sums_same _ (at r) (below_three (λ k. at (at r 0 ∷ at r 1 ∷ at r 2 ∷ []) k ≡ at r k) refl refl refl) lo sl)
      (sums_same _ (tail (at r)) (below_three (λ k. at (at r 3 ∷ at r 4 ∷ at r 5 ∷ []) k ≡ at r (3 + k)) refl refl refl) hi sh)
      v l t
