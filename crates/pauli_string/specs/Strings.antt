-- Strings of q letters, as numbers: digit i is X on qubit i, digit q + i is Z, both are Y. Qubit 0 is the pivot. Assumes nothing.
use Rattle.std.specs.Prelude.{Bool, cond, not, ℕ, zero, suc, ◌+◌, ◌-◌, ◌*◌, ◌/◌, ◌%◌, ◌^◌, eqb, ltb}
use Rattle.std.specs.Int.Bits.{bit_xor}
use Rattle.bicycle_common.specs.declared.Pauli.{Pauli}
use Rattle.bicycle_common.specs.Letters.{flag, x_of, z_of, letter, is_i, clash}

-- the strings of the bicycle architecture have twelve letters
abbrev pub qubits : ℕ
qubits = 12

-- p is a string of q letters
abbrev pub is_string : ℕ → ℕ → Bool
is_string q p = ltb p (4 ^ q)

-- binary digit i of n
unfoldable pub bit : ℕ → ℕ → ℕ
bit n i = n / 2 ^ i % 2

-- the letter of p at qubit i
unfoldable pub letter_at : ℕ → ℕ → ℕ → Pauli
letter_at q p i = letter (bit p i) (bit p (q + i))

-- ---- commutation and conjugation; the product of p and r is `bit_xor p r`

-- the number of qubits below k at which both letters are non-identity and differ
unfoldable pub clashes : ℕ → ℕ → ℕ → ℕ → ℕ
clashes q p r zero = 0
clashes q p r (suc k) = clashes q p r k + flag (clash (letter_at q p k) (letter_at q r k))

-- two strings commute exactly when these qubits are even in number
unfoldable pub commute : ℕ → ℕ → ℕ → Bool
commute q p r = eqb (clashes q p r q % 2) 0

-- conjugating p with r gives p if they commute, else the product
unfoldable pub conj : ℕ → ℕ → ℕ → ℕ
conj q p r = cond (commute q p r) p (bit_xor p r)

-- ---- the pivot

-- the digits of the letter on the pivot
unfoldable pub pivot_bits : ℕ → ℕ → ℕ
pivot_bits q p = bit p q * 2 ^ q + bit p 0

-- p with its pivot blanked: without these digits
unfoldable pub blank : ℕ → ℕ → ℕ
blank q p = p - pivot_bits q p

-- a letter stands on the pivot
unfoldable pub has_pivot : ℕ → ℕ → Bool
has_pivot q p = not (is_i (letter_at q p 0))

-- a letter stands on another qubit: with its pivot blanked p is not the identity
unfoldable pub has_logical : ℕ → ℕ → Bool
has_logical q p = not (eqb (blank q p) 0)

-- a rotation conjugates by its string with the pivot blanked
unfoldable pub rotate : ℕ → ℕ → ℕ → ℕ
rotate q p r = conj q p (blank q r)

-- ---- the q - 1 letters above the pivot, as digits of their own

-- the digits of p without the pivot's: X in digits 0 to q - 2, Z in digits q - 1 to 2 q - 3
unfoldable pub logical_bits : ℕ → ℕ → ℕ
logical_bits q p = p / 2 ^ (q + 1) * 2 ^ (q - 1) + p % 2 ^ q / 2

-- and back: digits 0 to q - 2 go to 1 to q - 1, digits q - 1 to 2 q - 3 go to q + 1 to 2 q - 1
unfoldable pub rotation_of : ℕ → ℕ → ℕ
rotation_of q n = n / 2 ^ (q - 1) * 2 ^ (q + 1) + n % 2 ^ (q - 1) * 2

-- ---- one letter

-- digit i of n set to b
unfoldable pub set_bit : ℕ → ℕ → ℕ → ℕ
set_bit n i b = n - bit n i * 2 ^ i + b * 2 ^ i

-- p with the letter l at qubit i
unfoldable pub set_letter : ℕ → ℕ → ℕ → Pauli → ℕ
set_letter q p i l = set_bit (set_bit p i (x_of l)) (q + i) (z_of l)
