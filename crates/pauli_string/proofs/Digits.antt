-- Binary digits of a number: of its halves, of the bit operations, and the count of those that are set. Assumes nothing.
use mathlib.Core.Path.{◌≡◌, refl, sym, ap, ap₂, subst, ◌∙◌}
use Prim.Native.Nat.{ℕ, zero, suc, ◌+◌, ◌-◌, ◌*◌, ◌/◌, ◌%◌, ◌^◌, ◌<◌, min}
use native.Mathlib.Nat.{mod-lt, mod-eq_of_lt, zero-lt-suc, add_comm, add-mul, div-add-mod', zero-div, mul-div_cancel}
use native.Mathlib.Omega.{arith}
use lib.Arith.{lt-one}
use lib.Pow.{pow_pos, shr_lt, shr-shr, mod-pow-add, mod-mod-pow, field}
use native.Mathlib.Numerals.{add-one, one-add}
use lib.Bits.{bit_and, bit_xor, differ, and_step, xor_step, and_shr, xor_shr}
use lib.Count.{ones, ones_cat}
use Rattle.bicycle_common.specs.Ranges.{sum}
use Rattle.pauli_string.specs.Strings.{bit}

pub two_pos : 0 < 2
two_pos = zero-lt-suc 1

pub bit_lt : (n i : ℕ) → bit n i < 2
unfolding bit
bit_lt n i = mod-lt (n / 2 ^ i) two_pos

pub bit_zero : (i : ℕ) → bit 0 i ≡ 0
unfolding bit
bit_zero i = ap (λ (n : ℕ). n % 2) (zero-div (2 ^ i))

pub bit_first : (n : ℕ) → bit n 0 ≡ n % 2
unfolding bit
bit_first n = omega arith

-- a double is even
pub even : (n : ℕ) → n * 2 % 2 ≡ 0
even n = omega arith

-- a multiple of P by the lowest digit of the factor, and the rest of it
pub halved : (n P : ℕ) → n * P ≡ n / 2 * 2 * P + n % 2 * P
halved n P = ap (λ (m : ℕ). m * P) (sym (div-add-mod' n 2)) ∙ add-mul (n / 2 * 2) (n % 2) P

-- the half of the digits below k + 1 has k digits
pub half_lt : (k n : ℕ) → n % 2 ^ suc k / 2 < 2 ^ k
half_lt k n = shr_lt k 1 (subst (λ (e : ℕ). n % 2 ^ suc k < 2 ^ e) (sym (add-one k)) (mod-lt n (pow_pos (suc k))))

-- the lowest digit of a word that was put together
pub low_digit : (n r d : ℕ) → d < 2 → n ≡ r * 2 + d → n % 2 ≡ d
low_digit n r d h e = omega arith

min_lt : (a b : ℕ) → a < 2 → min a b < 2
min_lt a b h = omega arith

pub differ_lt : (a b : ℕ) → a < 2 → b < 2 → differ a b < 2
differ_lt zero b h k = k
differ_lt (suc zero) zero h k = h
differ_lt (suc zero) (suc zero) h k = zero-lt-suc 1
differ_lt (suc (suc a)) b h k = absurd (omega arith)
differ_lt (suc zero) (suc (suc b)) h k = absurd (omega arith)

pub and_bit : (a b i : ℕ) → bit (bit_and a b) i ≡ min (bit a i) (bit b i)
unfolding bit
and_bit a b i =
    ap (λ (n : ℕ). n % 2) (and_shr a b i)
    ∙ low_digit _ _ _ (min_lt _ _ (mod-lt (a / 2 ^ i) two_pos)) (and_step (a / 2 ^ i) (b / 2 ^ i))

pub xor_bit : (a b i : ℕ) → bit (bit_xor a b) i ≡ differ (bit a i) (bit b i)
unfolding bit
xor_bit a b i =
    ap (λ (n : ℕ). n % 2) (xor_shr a b i)
    ∙ low_digit _ _ _ (differ_lt _ _ (mod-lt (a / 2 ^ i) two_pos) (mod-lt (b / 2 ^ i) two_pos)) (xor_step (a / 2 ^ i) (b / 2 ^ i))

-- digits of the part above digit k
pub bit_high : (n k i : ℕ) → bit (n / 2 ^ k) i ≡ bit n (k + i)
unfolding bit
bit_high n k i = ap (λ (m : ℕ). m % 2) (shr-shr n k i)

-- digits of the part below digit k
bit_low_at : (n j i : ℕ) → bit (n % 2 ^ (suc j + i)) i ≡ bit n i
unfolding bit
bit_low_at n j i =
    ap (λ (m : ℕ). m % 2) (field n (suc j) i)
    ∙ ap (λ (e : ℕ). n / 2 ^ i % 2 ^ e % 2) (sym (add-one j)) ∙ mod-mod-pow (n / 2 ^ i) j 1

pub bit_low : (n k i : ℕ) → i < k → bit (n % 2 ^ k) i ≡ bit n i
bit_low n k i h =
    let e : k ≡ suc (k - suc i) + i = omega arith in
    ap (λ (m : ℕ). bit (n % 2 ^ m) i) e ∙ bit_low_at n (k - suc i) i

-- digits of a double, and of a number made even
pub bit_double : (n i : ℕ) → bit (n * 2) (1 + i) ≡ bit n i
bit_double n i = sym (bit_high (n * 2) 1 i) ∙ ap (λ (m : ℕ). bit m i) (mul-div_cancel n two_pos)

pub bit_even : (n i : ℕ) → bit (n / 2 * 2) (1 + i) ≡ bit n (1 + i)
bit_even n i = bit_double (n / 2) i ∙ bit_high n 1 i

-- ---- the count of the set digits

ones_bit : (b : ℕ) → b < 2 → ones b ≡ b
unfolding ones
ones_bit zero h = refl
ones_bit (suc zero) h = refl
ones_bit (suc (suc b)) h = absurd (omega arith)

pub ones_low : (n k : ℕ) → ones (n % 2 ^ k) ≡ sum k (bit n)
unfolding sum bit ones
ones_low n zero = ap ones (lt-one (mod-lt n (pow_pos zero)))
ones_low n (suc k) =
    ap ones (ap (λ (m : ℕ). n % 2 ^ m) (sym (one-add k)) ∙ mod-pow-add n 1 k)
    ∙ ones_cat k (n / 2 ^ k % 2 ^ 1) (n % 2 ^ k) (mod-lt n (pow_pos k))
    ∙ ap₂ (λ (a b : ℕ). a + b) (ones_bit (n / 2 ^ k % 2) (mod-lt (n / 2 ^ k) two_pos)) (ones_low n k)
    ∙ add_comm (n / 2 ^ k % 2) (sum k (bit n))

pub ones_of : (n k : ℕ) → n < 2 ^ k → ones n ≡ sum k (bit n)
ones_of n k h = ap ones (sym (mod-eq_of_lt h)) ∙ ones_low n k
