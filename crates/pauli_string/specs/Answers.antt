-- What each public call answers: 4 for a number that is no string of q letters, 14 for a qubit that is none, 13 for text that is none.
-- The lowest number that applies is given. Assumes nothing.
use Rattle.std.specs.Prelude.{Bool, cond, ◌&&◌, List, [], ◌∷◌, map, ℕ, ◌-◌, ltb, Result, Ok, Err}
use Rattle.std.specs.Int.Bits.{bit_xor}
use Rattle.bicycle_common.specs.declared.Pauli.{Pauli}
use Rattle.bicycle_common.specs.declared.Refusal.{Refusal}
use Rattle.bicycle_common.specs.declared.Refusal.TheVariants.{StringRange, NotLetters, QubitRange}
use Rattle.bicycle_common.specs.Refusals.{Told, told}
use Rattle.bicycle_common.specs.Letters.{flag, rank}
use Rattle.pauli_string.specs.declared.PauliString.{PauliString}
use Rattle.pauli_string.specs.Strings.{is_string, commute, conj, pivot_bits, blank, has_pivot, has_logical, logical_bits, rotation_of, letter_at, set_letter}
use Rattle.pauli_string.specs.Text.{letters, text, is_text, spelled}

-- ---- the answers, and what a caller is told by each

abbrev pub string : ℕ → Result PauliString Refusal
string n = Ok (record { 0 = n })

abbrev pub told_string : Result PauliString Refusal → Told
told_string = told 1 (λ (s : PauliString). s.0 ∷ [])

abbrev pub told_bool : Result Bool Refusal → Told
told_bool = told 1 (λ (b : Bool). flag b ∷ [])

-- what a call answers of p where p is a string of q letters, and else 4
abbrev pub string_at : {A : Type 0} → ℕ → ℕ → Result A Refusal → Result A Refusal
string_at q p a = cond (is_string q p) a (Err StringRange)

-- what it answers where i is one of q qubits, and else 14
abbrev pub qubit_at : {A : Type 0} → ℕ → ℕ → Result A Refusal → Result A Refusal
qubit_at q i a = cond (ltb i q) a (Err QubitRange)

-- ---- of strings

abbrev pub mul : ℕ → ℕ → ℕ → Result PauliString Refusal
mul q p r = string_at q p (string_at q r (string (bit_xor p r)))

abbrev pub commutes_with : ℕ → ℕ → ℕ → Result Bool Refusal
commutes_with q p r = string_at q p (string_at q r (Ok (commute q p r)))

abbrev pub conjugate_with : ℕ → ℕ → ℕ → Result PauliString Refusal
conjugate_with q p r = string_at q p (string_at q r (string (conj q p r)))

abbrev pub pivot_part : ℕ → ℕ → Result PauliString Refusal
pivot_part q p = string_at q p (string (pivot_bits q p))

abbrev pub zero_pivot : ℕ → ℕ → Result PauliString Refusal
zero_pivot q p = string_at q p (string (blank q p))

abbrev pub logical_part : ℕ → ℕ → Result PauliString Refusal
logical_part q p = string_at q p (string (logical_bits q p))

abbrev pub pivot_support : ℕ → ℕ → Result Bool Refusal
pivot_support q p = string_at q p (Ok (has_pivot q p))

abbrev pub logical_support : ℕ → ℕ → Result Bool Refusal
logical_support q p = string_at q p (Ok (has_logical q p))

abbrev pub non_trivial_support : ℕ → ℕ → Result Bool Refusal
non_trivial_support q p = string_at q p (Ok (has_pivot q p && has_logical q p))

-- of digits of q - 1 letters, which are below 4 ^ (q - 1)
abbrev pub rotation : ℕ → ℕ → Result PauliString Refusal
rotation q n = string_at (q - 1) n (string (rotation_of q n))

abbrev pub get_pauli : ℕ → ℕ → ℕ → Result Pauli Refusal
get_pauli q p i = string_at q p (qubit_at q i (Ok (letter_at q p i)))

abbrev pub set_pauli : ℕ → ℕ → ℕ → Pauli → Result PauliString Refusal
set_pauli q p i l = string_at q p (qubit_at q i (string (set_letter q p i l)))

-- ---- of letters and text

abbrev pub to_letters : ℕ → ℕ → Result (List Pauli) Refusal
to_letters q p = string_at q p (Ok (letters q p))

-- the letters' places in the order I, X, Z, Y, of q letters
abbrev pub told_letters : ℕ → Result (List Pauli) Refusal → Told
told_letters q = told q (map rank)

abbrev pub printed : ℕ → ℕ → Result (List ℕ) Refusal
printed q p = string_at q p (Ok (text q p))

abbrev pub told_text : ℕ → Result (List ℕ) Refusal → Told
told_text q = told q (λ (s : List ℕ). s)

abbrev pub read_text : ℕ → List ℕ → Result PauliString Refusal
read_text q s = cond (is_text q s) (string (spelled q s)) (Err NotLetters)
