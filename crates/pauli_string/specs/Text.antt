-- Letters and text. An array of letters has qubit 0 first. Text has the highest qubit first: it is the letters in reverse, printed in
-- capitals and read in either case. Assumes nothing.
use Rattle.std.specs.Prelude.{Result, Ok, Err}
use Rattle.bicycle_common.specs.declared.Refusal.{Refusal}
use Rattle.std.specs.Prelude.{Bool, true, false, ◌&&◌, List, [], ◌∷◌, map, reverse, ℕ, ◌+◌, ◌*◌, ◌^◌, length, eqb}
use Rattle.bicycle_common.specs.declared.Pauli.{Pauli}
use Rattle.bicycle_common.specs.declared.Pauli.TheVariants.{I}
use Rattle.bicycle_common.specs.Ranges.{listed}
use Rattle.bicycle_common.specs.Letters.{x_of, z_of, capital, read_letter}
use Rattle.pauli_string.specs.Strings.{letter_at}

-- ---- arrays of letters

-- the letters of p, qubit 0 first
unfoldable pub letters : ℕ → ℕ → List Pauli
letters q p = listed (letter_at q p) q

-- the number whose binary digits f gives for each letter, the first letter's lowest
unfoldable pub number : (Pauli → ℕ) → List Pauli → ℕ
number f [] = 0
number f (l ∷ ls) = number f ls * 2 + f l

-- the string of q letters: X digits, and Z digits q places higher
unfoldable pub string_of : ℕ → List Pauli → ℕ
string_of q ls = number z_of ls * 2 ^ q + number x_of ls

-- ---- text

-- the text of p
unfoldable pub text : ℕ → ℕ → List ℕ
text q p = map capital (reverse (letters q p))

abbrev pub good : Result Pauli Refusal → Bool
good (Ok l) = true
good (Err r) = false

abbrev pub the_letter : Result Pauli Refusal → Pauli
the_letter (Ok l) = l
the_letter (Err r) = I

-- the letter that a byte stands for; I for a byte that stands for none
unfoldable pub letter_of : ℕ → Pauli
letter_of b = the_letter (read_letter b)

-- every byte stands for a letter
unfoldable pub all_letters : List ℕ → Bool
all_letters [] = true
all_letters (b ∷ s) = good (read_letter b) && all_letters s

-- s is text of q letters
unfoldable pub is_text : ℕ → List ℕ → Bool
is_text q s = eqb (length s) q && all_letters s

-- the string that it spells
unfoldable pub spelled : ℕ → List ℕ → ℕ
spelled q s = string_of q (reverse (map letter_of s))
