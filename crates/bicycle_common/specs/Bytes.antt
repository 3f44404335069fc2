-- Text as bytes, in ASCII. Assumes nothing.
use Rattle.std.specs.Prelude.{cond, ◌&&◌, List, [], ◌∷◌, map, ℕ, ◌+◌, ◌-◌, leb}
use Prim.Native.Char.{code}
use Prim.Native.String.{String, [] as none, ◌∷◌ as ◌then◌}

-- the bytes of a text
abbrev pub bytes_of : String → List ℕ
bytes_of none = []
bytes_of (c then s) = code c ∷ bytes_of s

-- one decimal digit
abbrev pub digit : ℕ → ℕ
digit d = code "0" + d

-- the numbers that decimal digits stand for
abbrev pub digit_numbers : List ℕ → List ℕ
digit_numbers s = map (λ (b : ℕ). b - code "0") s

-- a byte with small letters turned to capitals
unfoldable pub upper : ℕ → ℕ
upper b = cond (leb (code "a") b && leb b (code "z")) (b - 32) b
