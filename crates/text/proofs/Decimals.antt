-- A number is written digit by digit, the last behind those of a tenth; a digit is a byte from 48 to 57. Assumes nothing.
use mathlib.Core.Bool.{true, ◌&&◌, and-eq-true_iff}
use mathlib.Core.List.{List, [], ◌∷◌, ◌++◌}
use mathlib.Core.Path.{◌≡◌, refl, sym, ◌∙◌}
use Prim.Native.Nat.pow
use Prim.Native.Nat.{ℕ, zero, suc, ◌+◌, ◌-◌, ◌*◌, ◌/◌, ◌%◌, ◌^◌, ◌<◌, ◌≤◌}
use native.Mathlib.Numerals.{add-one}
use native.Mathlib.Omega.{arith}
use lib.Dec.{leb}
use lib.ListN.{length, drop, get_or, length-append, drop_of_length-le}
use lib.Seq.{drop-cons}
use borrow.Author.Tests.{lt-ltb, le-ltb, leb-true}
use Rattle.bicycle_common.specs.Bytes.{digit}
use Rattle.text.specs.declared.Out.{Out}
use Rattle.text.specs.Puts.{Put}
use Rattle.text.specs.Decimals.{digits_up_to, decimal, is_digit, all_digits, number_from}
use Rattle.text.proofs.Puts.{then}

-- ---- written

-- the bound on the number of digits does not matter where it is large enough
digits_same : (k j n : ℕ) → n ≤ k → n ≤ j → digits_up_to k n ≡ digits_up_to j n
unfolding digits_up_to
digits_same zero zero n h g = refl
digits_same zero (suc j) n h g = simp (lt-ltb n 10 (omega arith))
digits_same (suc k) zero n h g = simp (lt-ltb n 10 (omega arith))
digits_same (suc k) (suc j) n h g = rw (digits_same k j (n / 10) (omega arith) (omega arith))

pub decimal_one : (n : ℕ) → n < 10 → decimal n ≡ digit n ∷ []
unfolding decimal digits_up_to
decimal_one zero h = refl
decimal_one (suc n) h = simp (lt-ltb (suc n) 10 h)

pub decimal_more : (n : ℕ) → 10 ≤ n → decimal n ≡ decimal (n / 10) ++ digit (n % 10) ∷ []
unfolding decimal digits_up_to
decimal_more zero h = absurd (omega arith)
decimal_more (suc n) h = simp (le-ltb (suc n) 10 h) (rw (digits_same n (suc n / 10) (suc n / 10) (omega arith) (omega arith)))

pub one_length : (n : ℕ) → n < 10 → length (decimal n) ≡ 1
one_length n h = rw (decimal_one n h)

pub more_length : (n : ℕ) → 10 ≤ n → length (decimal n) ≡ length (decimal (n / 10)) + 1
more_length n h = rw (decimal_more n h) (length-append (decimal (n / 10)) (digit (n % 10) ∷ []))

-- the last digit alone
pub put_one : {x y : Out} (n : ℕ) → n < 10 → Put x (digit (n % 10) ∷ []) y → Put x (decimal n) y
put_one n h p = let e : n % 10 ≡ n = omega arith in rw (decimal_one n h) (rw e at p)

-- and behind those of a tenth
pub put_more : {x y z : Out} (n : ℕ) → 10 ≤ n → Put x (decimal (n / 10)) y → Put y (digit (n % 10) ∷ []) z → Put x (decimal n) z
put_more n h p q = rw (decimal_more n h) (then p q)

-- ---- read

-- a digit, as bounds on its byte
pub record Digit (b : ℕ) : Type 0 where
  pub low : 48 ≤ b
  pub high : b ≤ 57

digit_between : (b : ℕ) → is_digit b ≡ true → Digit b
digit_between b e =
    let t = (and-eq-true_iff (leb 48 b) (leb b 57)).0 e in
    record { low = leb-true 48 b t.0; high = leb-true b 57 t.1 }

-- from place i on
module _ (s : List ℕ) (i : ℕ) where
  module _ (h : i < length s) where
    pub all_next : all_digits (drop i s) ≡ true → Digit (get_or s i 0) × (all_digits (drop (i + 1) s) ≡ true)
    all_next a =
        let e : (is_digit (get_or s i 0) && all_digits (drop (suc i) s)) ≡ true = rw (drop-cons s i 0 h) at a in
        let t = (and-eq-true_iff (is_digit (get_or s i 0)) (all_digits (drop (suc i) s))).0 e in
        (digit_between (get_or s i 0) t.0, rw add-one t.1)

    pub number_step : (v : ℕ) → number_from v (drop i s) ≡ number_from (10 * v + (get_or s i 0 - 48)) (drop (i + 1) s)
    unfolding number_from
    number_step v = rw (add-one, drop-cons s i 0 h)

  pub number_none : (v : ℕ) → length s ≤ i → number_from v (drop i s) ≡ v
  unfolding number_from
  number_none v h = rw (drop_of_length-le s h)

-- v is what the digits before place i of s stand for, the others are to come
pub record SoFar (s : List ℕ) (i v : ℕ) : Type 0 where
  pub digits : all_digits (drop i s) ≡ true
  pub number : number_from v (drop i s) ≡ number_from 0 s
  pub small : v < 10 ^ i

small_next : (i v d : ℕ) → v < 10 ^ i → d ≤ 9 → 10 * v + d < 10 ^ (i + 1)
small_next i v d h k = rw (add-one, pow.suc 10 i) (omega arith)

pub so_far_next : (s : List ℕ) (i v : ℕ) → SoFar s i v → i < length s → SoFar s (i + 1) (10 * v + (get_or s i 0 - 48))
so_far_next s i v r h =
    let n = all_next s i h r.digits in
    record {
      digits = n.1;
      number = sym (number_step s i h v) ∙ r.number;
      small = small_next i v (get_or s i 0 - 48) r.small (omega (arith, n.0.high));
    }

-- of three digits at most two stand before another
pub small_before : (i v : ℕ) → v < 10 ^ i → i < 3 → v < 100
small_before zero v h k = omega arith
small_before (suc zero) v h k = omega arith
small_before (suc (suc zero)) v h k = omega arith
small_before (suc (suc (suc i))) v h k = absurd (omega arith)
