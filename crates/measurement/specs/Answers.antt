-- What each public call answers: 3 for a matrix that is none of zeros and ones, then 11 for a number that is no native's. Assumes nothing.
use Rattle.std.specs.Prelude.{Bool, cond, ◌&&◌, List, ℕ, ltb, Result, Ok, Err}
use Rattle.bicycle_common.specs.declared.Refusal.{Refusal}
use Rattle.bicycle_common.specs.declared.Refusal.TheVariants.{Matrix as NoMatrix, NativeRange}
use Rattle.pauli_string.specs.declared.PauliString.{PauliString}
use Rattle.pauli_string.specs.Answers.{string}
use Rattle.native_measurement.specs.Natives.{natives}
use Rattle.measurement.specs.Matrices.{Matrix, of_bytes, is_binary, is_bytes}
use Rattle.measurement.specs.Measures.{native_string}

-- what an answer holds, as f tells it, or the refusal
abbrev pub of_answer : {A B : Type 0} → (A → B) → Result A Refusal → Result B Refusal
of_answer f (Ok a) = Ok (f a)
of_answer f (Err r) = Err r

-- what a call answers of bytes that are two matrices, and else 3
abbrev pub matrices_at : {A : Type 0} → ℕ → List ℕ → List ℕ → A → Result A Refusal
matrices_at s mx my a = cond (is_bytes s mx && is_bytes s my) (Ok a) (Err NoMatrix)

-- the string of native n on the code of mx and my, which are or are not good
abbrev pub measures_if : Bool → ℕ → Matrix → Matrix → ℕ → Result PauliString Refusal
measures_if good s mx my n = cond good (cond (ltb n natives) (string (native_string s mx my n)) (Err NativeRange)) (Err NoMatrix)

abbrev pub measures : ℕ → Matrix → Matrix → ℕ → Result PauliString Refusal
measures s mx my n = measures_if (is_binary s mx && is_binary s my) s mx my n

abbrev pub measures_bytes : ℕ → List ℕ → List ℕ → ℕ → Result PauliString Refusal
measures_bytes s mx my n = measures_if (is_bytes s mx && is_bytes s my) s (of_bytes s mx) (of_bytes s my) n
