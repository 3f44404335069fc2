-- Text as lines, and a line as a name, a value and its end. Assumes nothing.
use Rattle.std.specs.Prelude.{Bool, true, false, cond, ◌&&◌, List, [], ◌∷◌, ℕ, suc, ◌-◌, eqb, ltb, length, get_or, take, drop}

-- the byte that ends a line
abbrev pub newline : ℕ
newline = 10

abbrev pub ends : ℕ → Bool
ends b = eqb b newline

-- ---- the lines of a text

-- the byte b put before the first line
abbrev pub grow : ℕ → List (List ℕ) → List (List ℕ)
grow b [] = (b ∷ []) ∷ []
grow b (l ∷ ls) = (b ∷ l) ∷ ls

-- each line keeps its end, which the last may lack
unfoldable pub lines : List ℕ → List (List ℕ)
lines [] = []
lines (b ∷ s) = cond (eqb b newline) ((b ∷ []) ∷ lines s) (grow b (lines s))

-- line i; where it is missing, a line of no bytes, which is bad in every place
abbrev pub line_at : ℕ → List (List ℕ) → List ℕ
line_at i ls = get_or ls i []

-- how many bytes the first line has
unfoldable pub line_length : List ℕ → ℕ
line_length [] = 0
line_length (b ∷ s) = cond (eqb b newline) 1 (suc (line_length s))

-- ---- one line

-- the line begins with the name
unfoldable pub begins : List ℕ → List ℕ → Bool
begins [] l = true
begins (a ∷ name) [] = false
begins (a ∷ name) (b ∷ l) = eqb a b && begins name l

-- the line is the name, a value and byte 10
unfoldable pub is_line : List ℕ → List ℕ → Bool
is_line name l = begins name l && ltb (length name) (length l) && eqb (get_or l (length l - 1) 0) newline

-- the value
abbrev pub value_in : List ℕ → List ℕ → List ℕ
value_in name l = take (length l - 1 - length name) (drop (length name) l)
