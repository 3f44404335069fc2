-- Decimal numbers as text, written and read. Assumes nothing.
use Rattle.std.specs.Prelude.{Bool, not, cond, ◌&&◌, List, [], ◌∷◌, ◌++◌, ℕ, zero, suc, ◌+◌, ◌-◌, ◌*◌, ◌/◌, ◌%◌, eqb, leb, ltb, length, get_or, Option, Some, None}
use Rattle.std.specs.List.{list_all}
use Prim.Native.Char.{code}
use Rattle.bicycle_common.specs.Bytes.{digit}

-- ---- written

-- a number below ten is its digit; another has its last digit behind those of a tenth of it, at most k times
unfoldable pub digits_up_to : ℕ → ℕ → List ℕ
digits_up_to zero n = digit n ∷ []
digits_up_to (suc k) n = cond (ltb n 10) (digit n ∷ []) (digits_up_to k (n / 10) ++ digit (n % 10) ∷ [])

-- the digits of n, first the highest
unfoldable pub decimal : ℕ → List ℕ
decimal n = digits_up_to n n

-- ---- read

abbrev pub is_digit : ℕ → Bool
is_digit b = leb (code "0") b && leb b (code "9")

abbrev pub all_digits : List ℕ → Bool
all_digits s = list_all is_digit s

-- the number that digits stand for, behind digits that stand for v
unfoldable pub number_from : ℕ → List ℕ → ℕ
number_from v [] = v
number_from v (b ∷ s) = number_from (10 * v + (b - code "0")) s

abbrev pub number_in : List ℕ → ℕ
number_in s = number_from 0 s

-- a zero that stands before another digit
abbrev pub needless_zero : List ℕ → Bool
needless_zero s = ltb 1 (length s) && eqb (get_or s 0 0) (code "0")

-- one to three digits and no needless zero
unfoldable pub is_number : List ℕ → Bool
is_number s = leb 1 (length s) && leb (length s) 3 && not (needless_zero s) && all_digits s

abbrev pub read_number : List ℕ → Option ℕ
read_number s = cond (is_number s) (Some (number_in s)) None
