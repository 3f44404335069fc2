-- A number as it is written: how many digits it has, and that these are read as the number again, with no needless zero. By induction on
-- tenths. Assumes nothing.
use mathlib.Core.Bool.{true, false, and-eq-true_iff, and-false}
use mathlib.Core.List.{List, [], ◌∷◌, ◌++◌}
use mathlib.Core.Logic.{⊎_elim}
use mathlib.Core.Path.{◌≡◌, refl}
use Prim.Native.Nat.pow
use Prim.Native.Nat.{ℕ, zero, suc, ◌+◌, ◌-◌, ◌*◌, ◌/◌, ◌%◌, ◌^◌, ◌<◌, ◌≤◌}
use native.Mathlib.Omega.{arith}
use lib.Dec.{ltb}
use lib.ListN.{length, get_or, length-append, get_or-append}
use borrow.Author.Tests.{le-leb, ne_eqb}
use Rattle.bicycle_common.specs.Bytes.{digit}
use Rattle.bicycle_common.proofs.Ranges.{lt_or_ge}
use Rattle.text.specs.Decimals.{decimal, is_digit, all_digits, number_from, number_in, needless_zero, is_number}
use Rattle.text.proofs.Decimals.{decimal_one, decimal_more, one_length, more_length}

-- what holds of the numbers below ten, and of any other where it holds of a tenth
module _ (P : ℕ → Type 0) (one : (n : ℕ) → n < 10 → P n) (more : (n : ℕ) → 10 ≤ n → P (n / 10) → P n) where
  below : (k n : ℕ) → n ≤ k → P n
  below zero n h = one n (omega arith)
  below (suc k) n h = ⊎_elim (one n) (λ g. more n g (below k (n / 10) (omega arith))) (lt_or_ge n 10)

  by_digits : (n : ℕ) → P n
  by_digits n = below n n (omega arith)

-- ---- how many digits

-- at least one
decimal_some : (n : ℕ) → 0 < length (decimal n)
decimal_some =
    by_digits (λ (n : ℕ). 0 < length (decimal n))
    (λ n h. rw (decimal_one n h) (omega arith))
    (λ n h p. rw (decimal_more n h, length-append) (omega arith))

-- no more than a greater number has
length_le : (n m : ℕ) → m ≤ n → length (decimal m) ≤ length (decimal n)
length_le =
    by_digits (λ (n : ℕ). (m : ℕ) → m ≤ n → length (decimal m) ≤ length (decimal n))
    (λ n h m l. omega (arith, one_length n h, one_length m (omega arith)))
    (λ n h p m l. ⊎_elim (λ q. omega (arith, one_length m q, decimal_some n)) (λ q. omega (arith, more_length m q, more_length n h, p (m / 10) (omega arith))) (lt_or_ge m 10))

pub room_within : {m n : ℕ} → m ≤ n → (at : ℕ) → at + length (decimal n) < 2 ^ 64 → at + length (decimal m) < 2 ^ 64
room_within {m} {n} l at r = omega (arith, length_le n m l)

-- a digit alone, and a tenth at most, have fewer
module _ {m n : ℕ} (h : 10 ≤ n) (l : 9 < m → m ≤ n / 10) where
  fewer : length (decimal m) + 1 ≤ length (decimal n)
  fewer =
      ⊎_elim (λ q. omega (arith, one_length m q, more_length n h, decimal_some (n / 10)))
      (λ q. omega (arith, more_length n h, length_le (n / 10) m (l (omega arith)))) (lt_or_ge m 10)

  -- so there is room for them, and for a byte behind them
  pub room_before : (at : ℕ) → at + length (decimal n) < 2 ^ 64 → at + length (decimal m) < 2 ^ 64
  room_before at r = omega (arith, fewer)

  pub room_behind : (at to : ℕ) → to ≡ at + length (decimal m) → at + length (decimal n) < 2 ^ 64 → to + 1 < 2 ^ 64
  room_behind at to e r = omega (arith, e, fewer)

-- at most k + 1 below 10 ^ (k + 1)
pub decimal_length : (n k : ℕ) → n < 10 ^ suc k → length (decimal n) ≤ suc k
decimal_length =
    by_digits (λ (n : ℕ). (k : ℕ) → n < 10 ^ suc k → length (decimal n) ≤ suc k)
    (λ n h k g. rw (decimal_one n h) (omega arith))
    (λ n h p k g. rw (decimal_more n h, length-append) (longer n k h p g))
  where
    longer : (n k : ℕ) → 10 ≤ n → ((k : ℕ) → n / 10 < 10 ^ suc k → length (decimal (n / 10)) ≤ suc k) → n < 10 ^ suc k
        → length (decimal (n / 10)) + 1 ≤ suc k
    longer n zero h p g = absurd (omega arith)
    longer n (suc k) h p g =
        let e : 10 ^ suc (suc k) ≡ 10 ^ suc k * 10 = pow.suc 10 (suc k) in
        omega (arith, p k (omega arith))

-- ---- read again

-- one digit more
digits_more : (s : List ℕ) (b : ℕ) → all_digits s ≡ true → is_digit b ≡ true → all_digits (s ++ b ∷ []) ≡ true
digits_more [] b e h = rw h
digits_more (a ∷ s) b e h =
    let t = (and-eq-true_iff (is_digit a) (all_digits s)).0 e in
    rw t.0 (digits_more s b t.1 h)

digit_is : (d : ℕ) → d < 10 → is_digit (digit d) ≡ true
digit_is d h = rw (le-leb 48 (48 + d) (omega arith), le-leb (48 + d) 57 (omega arith))

pub decimal_digits : (n : ℕ) → all_digits (decimal n) ≡ true
decimal_digits =
    by_digits (λ (n : ℕ). all_digits (decimal n) ≡ true)
    (λ n h. rw (decimal_one n h) (digits_more [] (digit n) refl (digit_is n h)))
    (λ n h p. rw (decimal_more n h) (digits_more (decimal (n / 10)) (digit (n % 10)) p (digit_is (n % 10) (omega arith))))

number_more : (v : ℕ) (s : List ℕ) (b : ℕ) → number_from v (s ++ b ∷ []) ≡ 10 * number_from v s + (b - 48)
unfolding number_from
number_more v [] b = refl
number_more v (a ∷ s) b = number_more (10 * v + (a - 48)) s b

pub number_decimal : (n : ℕ) → number_in (decimal n) ≡ n
number_decimal =
    by_digits (λ (n : ℕ). number_in (decimal n) ≡ n)
    (λ n h. rw (decimal_one n h, number_more 0 [] (digit n)) (unfold number_from in omega arith))
    (λ n h p. rw (decimal_more n h, number_more 0 (decimal (n / 10)) (digit (n % 10)), p) (omega arith))

-- the first digit is a zero only in 0
decimal_first : (n : ℕ) → get_or (decimal n) 0 0 ≡ digit 0 → n ≡ 0
decimal_first =
    by_digits (λ (n : ℕ). get_or (decimal n) 0 0 ≡ digit 0 → n ≡ 0)
    (λ n h. rw (decimal_one n h) (λ e. omega arith))
    (λ n h p. rw (decimal_more n h, get_or-append (decimal (n / 10)) (digit (n % 10) ∷ []) 0 0 (decimal_some (n / 10)))
    (λ e. absurd (omega (arith, p e))))

-- so none is needless
decimal_needs : (n : ℕ) → needless_zero (decimal n) ≡ false
decimal_needs zero = rw (decimal_one 0 (omega arith))
decimal_needs (suc n) =
    rw (ne_eqb (get_or (decimal (suc n)) 0 0) 48 (λ e. absurd (omega (arith, decimal_first (suc n) e))), and-false (ltb 1 (length (decimal (suc n)))))

pub decimal_number : (n : ℕ) → n < 1000 → is_number (decimal n) ≡ true
unfolding is_number
decimal_number n h =
    rw (le-leb 1 (length (decimal n)) (decimal_some n), le-leb (length (decimal n)) 3 (decimal_length n 2 h), decimal_needs n, decimal_digits n)
