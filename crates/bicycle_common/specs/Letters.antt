-- The four letters, which pairs of them anticommute, and the bytes that stand for them. Assumes nothing.
use Rattle.std.specs.Prelude.{Bool, true, false, cond, not, ◌&&◌, ◌||◌, [], ◌∷◌, ℕ, zero, suc, ◌+◌, ◌*◌, eqb, Option, None, Some, Result, Ok, Err}
use Prim.Native.Char.{code}
use Rattle.bicycle_common.specs.declared.Pauli.{Pauli}
use Rattle.bicycle_common.specs.declared.Pauli.TheVariants.{I, X, Z, Y}
use Rattle.bicycle_common.specs.declared.TwoBases.{TwoBases}
use Rattle.bicycle_common.specs.declared.Refusal.{Refusal}
use Rattle.bicycle_common.specs.declared.Refusal.TheVariants.{NotLetters}
use Rattle.bicycle_common.specs.Refusals.{Told, answered, refused}

-- ---- the letters, which run I, X, Z, Y

-- the digit for a yes or a no
abbrev pub flag : Bool → ℕ
flag b = cond b 1 0

-- the X digit and the Z digit of a letter: Y has both
abbrev pub x_of : Pauli → ℕ
x_of I = 0
x_of X = 1
x_of Z = 0
x_of Y = 1

abbrev pub z_of : Pauli → ℕ
z_of I = 0
z_of X = 0
z_of Z = 1
z_of Y = 1

-- the letter with the X digit x and the Z digit z
abbrev pub letter : ℕ → ℕ → Pauli
letter zero zero = I
letter zero (suc z) = Z
letter (suc x) zero = X
letter (suc x) (suc z) = Y

-- the place of a letter in the order I, X, Z, Y
unfoldable pub rank : Pauli → ℕ
rank l = x_of l + 2 * z_of l

abbrev pub is_i : Pauli → Bool
is_i I = true
is_i X = false
is_i Z = false
is_i Y = false

unfoldable pub same : Pauli → Pauli → Bool
same a b = eqb (rank a) (rank b)

-- the textbook rule at one qubit: two letters anticommute where both are non-identity and differ
unfoldable pub clash : Pauli → Pauli → Bool
clash a b = not (is_i a) && not (is_i b) && not (same a b)

-- the two letters that anticommute with a letter, in the order of the letters; none with the identity
abbrev pub anticommuting_letters : Pauli → Option (Pauli × Pauli)
anticommuting_letters I = None
anticommuting_letters X = Some (Z, Y)
anticommuting_letters Z = Some (X, Y)
anticommuting_letters Y = Some (X, Z)

-- ---- bytes

abbrev pub capital : Pauli → ℕ
capital I = code "I"
capital X = code "X"
capital Z = code "Z"
capital Y = code "Y"

-- ASCII's small letter stands 32 above the capital
abbrev pub small : Pauli → ℕ
small l = capital l + 32

-- b stands for l, in either case
abbrev pub stands_for : ℕ → Pauli → Bool
stands_for b l = eqb b (capital l) || eqb b (small l)

-- the letter that a byte stands for, or 13
unfoldable pub read_letter : ℕ → Result Pauli Refusal
read_letter b =
    cond (stands_for b I) (Ok I)
    (cond (stands_for b X) (Ok X)
    (cond (stands_for b Z) (Ok Z)
    (cond (stands_for b Y) (Ok Y)
    (Err NotLetters))))

-- what a caller is told: the letter's place in the order I, X, Z, Y
abbrev pub told_letter : Result Pauli Refusal → Told
told_letter (Ok l) = answered (rank l ∷ [])
told_letter (Err r) = refused 1 r

-- ---- two bases: any pair of letters but (I,I)

abbrev pub bases_of : Pauli → Pauli → Option TwoBases
bases_of p1 p7 = cond (is_i p1 && is_i p7) None (Some (record { p1 = p1; p7 = p7 }))
