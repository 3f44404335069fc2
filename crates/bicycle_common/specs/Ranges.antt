-- The numbers below a bound: a sum over them, the greatest value, a test of each, a list of what a function gives,
-- steps taken at each in turn. Assumes nothing.
use Rattle.std.specs.Prelude.{Bool, true, ◌&&◌, List, [], ◌∷◌, ℕ, zero, suc, ◌+◌, max}

-- f 0 + .. + f (n - 1)
unfoldable pub sum : ℕ → (ℕ → ℕ) → ℕ
sum zero f = 0
sum (suc n) f = sum n f + f n

-- the greatest of f 0, .., f (n - 1), 0 where there is none
unfoldable pub most : ℕ → (ℕ → ℕ) → ℕ
most zero f = 0
most (suc n) f = max (most n f) (f n)

-- f holds of every number below n
unfoldable pub all_below : ℕ → (ℕ → Bool) → Bool
all_below zero f = true
all_below (suc n) f = f n && all_below n f

-- f i, f (i + 1), .. : k of them
unfoldable pub list_from : {A : Type 0} → (ℕ → A) → ℕ → ℕ → List A
list_from f i zero = []
list_from f i (suc k) = f i ∷ list_from f (suc i) k

-- f 0, .., f (n - 1)
abbrev pub listed : {A : Type 0} → (ℕ → A) → ℕ → List A
listed f n = list_from f 0 n

-- step 0, then step 1, .., then step (n - 1), from s on
unfoldable pub in_turn : {A : Type 0} → ℕ → (ℕ → A → A) → A → A
in_turn zero step s = s
in_turn (suc n) step s = step n (in_turn n step s)
