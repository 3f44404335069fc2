-- The instructions to which natives and rotations expand, and their text. Assumes nothing.
use Rattle.std.specs.Prelude.{List, [], ◌∷◌, ◌++◌, map, flat_map, ℕ, Option, Some, None, Result, Ok, Err}
use Prim.Native.Char.{code}
use Rattle.bicycle_common.specs.declared.Pauli.{Pauli}
use Rattle.bicycle_common.specs.declared.Pauli.TheVariants.{I}
use Rattle.bicycle_common.specs.declared.BicycleISA.{BicycleISA}
use Rattle.bicycle_common.specs.declared.BicycleISA.TheVariants.{Measure}
use Rattle.bicycle_common.specs.declared.Refusal.{Refusal}
use Rattle.bicycle_common.specs.declared.Refusal.TheVariants.{PivotIdentity}
use Rattle.bicycle_common.specs.Refusals.{Told, told}
use Rattle.bicycle_common.specs.Letters.{anticommuting_letters}
use Rattle.bicycle_common.specs.Instructions.{instruction_text}
use Rattle.pauli_string.specs.declared.PauliString.{PauliString}
use Rattle.pauli_string.specs.Strings.{letter_at}
use Rattle.native_measurement.specs.Answers.{implementation_at, told_instruction}
use Rattle.measurement.specs.Answers.{measures_bytes}

-- ---- a rotation

-- a measurement of the first pivot alone
abbrev pub alone : Pauli → BicycleISA
alone p = Measure (record { p1 = p; p7 = I })

-- a rotation adds one meas before and one after to its native's instructions, with the two letters; 10 where there are none
abbrev pub around : Option (Pauli × Pauli) → Result (List BicycleISA) Refusal → Result (List BicycleISA) Refusal
around None i = Err PivotIdentity
around (Some (p0, p1)) (Ok is) = Ok (alone p0 ∷ is ++ alone p1 ∷ [])
around (Some (p0, p1)) (Err r) = Err r

-- the rotation by native n, which measures p: the letters anticommute with the one that p has on the pivot
unfoldable pub rotation_by : ℕ → ℕ → ℕ → Result (List BicycleISA) Refusal
rotation_by q n p = around (anticommuting_letters (letter_at q p 0)) (implementation_at n)

-- the rotation by native n, where its string is at hand or refused
abbrev pub rotation_if : ℕ → ℕ → Result PauliString Refusal → Result (List BicycleISA) Refusal
rotation_if q n (Ok p) = rotation_by q n p.0
rotation_if q n (Err r) = Err r

-- the rotation by native n of the code of two matrices as bytes, over the side s: 3, then 11 or 10
unfoldable pub rotation_instructions : ℕ → ℕ → List ℕ → List ℕ → ℕ → Result (List BicycleISA) Refusal
rotation_instructions q s mx my n = rotation_if q n (measures_bytes s mx my n)

-- ---- expansions as lists of instructions, and what a caller is told

-- none of a refusal
abbrev pub expansion : Result (List BicycleISA) Refusal → List BicycleISA
expansion (Ok is) = is
expansion (Err r) = []

abbrev pub told_rotation : Result (List BicycleISA) Refusal → Told
told_rotation = told 15 (flat_map told_instruction)

-- ---- the text of an expansion

abbrev pub space : ℕ
space = code " "

-- texts with a space between each and the next
unfoldable pub spaced : List (List ℕ) → List ℕ
spaced [] = []
spaced (t ∷ []) = t
spaced (t ∷ u ∷ ts) = t ++ space ∷ spaced (u ∷ ts)

abbrev pub expansion_text : List BicycleISA → List ℕ
expansion_text is = spaced (map instruction_text is)
