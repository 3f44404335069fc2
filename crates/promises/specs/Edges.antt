-- The worked examples of document 01, "Both sides of each edge", that are marked *: each row is a question and the paper's answer, its
-- number (0 where nothing is refused) and its values. One theorem, computed, says that every row is right. Assumes nothing.
use Rattle.std.specs.Prelude.{◌≡◌, refl, List, [], ◌∷◌, map, ℕ}
use Prim.Native.String.{String}
use Rattle.bicycle_common.specs.Refusals.{Told, answered}
use Rattle.bicycle_common.specs.Letters.{flag, rank, same, clash}
use Rattle.bicycle_common.specs.Ranges.{sum, all_below}
use Rattle.bicycle_common.specs.Automorphisms.{of_pair, inverse, told_pair}
use Rattle.pauli_string.specs.Strings.{qubits, bit, letter_at, clashes, commute, conj, pivot_bits, blank, rotation_of}
use Rattle.pauli_string.specs.Answers.{commutes_with, conjugate_with, zero_pivot, rotation, told_string, told_bool}
use Rattle.native_measurement.specs.Natives.{native_of}
use Rattle.measurement.specs.Matrices.{side, one, mul, pow, is_binary}
use Rattle.measurement.specs.Measures.{action, packed, placed, measured, native_string, pair_string}
use Rattle.measurement.specs.Codes.{digits_of}
use Rattle.measurement.specs.Answers.{measures_bytes}
use Rattle.natives.specs.Kept.{kept_by, kept}

pub data Question : Type 0 where
  -- do the two strings commute? 1 for yes
  commute? : ℕ → ℕ → Question
  -- the first string, conjugated with the second
  conjugated? : ℕ → ℕ → Question
  -- the first string, conjugated with the second blanked
  rotated? : ℕ → ℕ → Question
  rotation? : ℕ → Question
  blanked? : ℕ → Question
  -- the inverse of an automorphism
  inverse? : ℕ → ℕ → Question
  -- the string of a native, on the code of two matrices by rows
  native? : String → String → ℕ → Question
  -- the string of a native, and whether the native is kept for it: 1 for yes
  kept? : String → String → ℕ → Question

abbrev pub asked : Question → Told
asked (commute? p r) = told_bool (commutes_with qubits p r)
asked (conjugated? p r) = told_string (conjugate_with qubits p r)
asked (rotated? p r) = told_string (conjugate_with qubits p (blank qubits r))
asked (rotation? n) = told_string (rotation qubits n)
asked (blanked? p) = told_string (zero_pivot qubits p)
asked (inverse? x y) = told_pair (inverse (of_pair x y))
asked (native? mx my n) = told_string (measures_bytes side (digits_of mx) (digits_of my) n)
asked (kept? mx my n) =
    let f = pair_string side (digits_of mx) (digits_of my) in
    answered (f n ∷ flag (kept f n) ∷ [])

-- the matrices of the worked examples, by rows
abbrev identity : String
identity = "100000010000001000000100000010000001"

abbrev zeros : String
zeros = "000000000000000000000000000000000000"

-- of the `plan` pair the second is the identity
abbrev plan_x : String
plan_x = "100000110000001000000100000010000001"

pub record Row : Type 0 where
  pub question : Question
  pub answer : Told

-- a row that is answered, and a row that is refused with zeros
abbrev pub is : Question → List ℕ → Row
is q vs = record { question = q; answer = record { number = 0; needed = 0; values = vs } }

abbrev pub refuses : Question → ℕ → List ℕ → Row
refuses q n vs = record { question = q; answer = record { number = n; needed = 0; values = vs } }

abbrev pub rows : List Row
rows =
    is (commute? 1 4096) (0 ∷ [])
    ∷ is (conjugated? 1 4096) (4097 ∷ [])
    ∷ is (commute? 65 266240) (1 ∷ [])
    ∷ is (rotation? 1) (2 ∷ [])
    ∷ is (rotation? 2048) (8192 ∷ [])
    ∷ is (rotation? 4194303) (16773118 ∷ [])
    ∷ refuses (rotation? 4194304) 4 (0 ∷ [])
    ∷ is (blanked? 4288) (192 ∷ [])
    ∷ is (blanked? 4097) (0 ∷ [])
    ∷ is (rotated? 262145 4288) (262337 ∷ [])
    ∷ is (inverse? 4 5) (2 ∷ 1 ∷ [])
    ∷ is (native? identity identity 0) (64 ∷ [])
    ∷ is (native? identity identity 3) (1 ∷ [])
    ∷ is (native? identity identity 7) (4096 ∷ [])
    ∷ is (native? identity identity 11) (4097 ∷ [])
    ∷ is (kept? identity identity 528) (1 ∷ 1 ∷ [])
    ∷ is (native? zeros zeros 539) (0 ∷ [])
    ∷ is (native? plan_x identity 440) (262145 ∷ [])
    ∷ is (native? plan_x identity 533) (4288 ∷ [])
    ∷ []

pub every_row_is_right : map (λ (r : Row). asked r.question) rows ≡ map (λ (r : Row). r.answer) rows
unfolding rank same clash bit letter_at clashes commute conj pivot_bits blank rotation_of sum all_below one mul pow is_binary action packed placed measured native_string native_of kept_by
every_row_is_right = refl
