-- The listing of a plan, line by line, and the whole output for any input. Assumes nothing.
use Rattle.std.specs.Prelude.{Result, Ok, Err}
use Rattle.std.specs.Prelude.{List, [], ◌∷◌, ◌++◌, ℕ, ◌+◌, ◌*◌, length}
use Prim.Native.String.{String}
use Rattle.bicycle_common.specs.declared.BicycleISA.{BicycleISA}
use Rattle.bicycle_common.specs.declared.BicycleISA.TheVariants.{Automorphism, Measure}
use Rattle.bicycle_common.specs.declared.Refusal.{Refusal}
use Rattle.bicycle_common.specs.Refusals.{number_of}
use Rattle.bicycle_common.specs.Bytes.{bytes_of}
use Rattle.text.specs.Decimals.{decimal}
use Rattle.pauli_string.specs.Strings.{qubits}
use Rattle.pauli_string.specs.Text.{text}
use Rattle.native_measurement.specs.declared.NativeNumber.{NativeNumber}
use Rattle.native_measurement.specs.Natives.{native_of}
use Rattle.native_measurement.specs.Answers.{implementation, implementation_at}
use Rattle.compile.specs.Expansions.{rotation_by, expansion, expansion_text}
use Rattle.reader.specs.Lines.{newline}
use Rattle.reader.specs.Plans.{Plan, strings_of, measured, read_plan}

-- ---- lines

-- a line: a name, a value and byte 10
abbrev pub line_of : String → List ℕ → List ℕ
line_of name v = bytes_of name ++ v ++ newline ∷ []

-- a native and what it expands to
abbrev pub native_text : String → NativeNumber → List BicycleISA → List ℕ
native_text name n is = line_of name (decimal n.0) ++ line_of "expand=" (expansion_text is)

unfoldable pub base_text : NativeNumber → List ℕ
base_text n = native_text "base=" n (expansion (implementation_at n.0))

-- f gives the natives' strings
unfoldable pub rotation_text : (ℕ → ℕ) → NativeNumber → List ℕ
rotation_text f n = native_text "rotation=" n (expansion (rotation_by qubits n.0 (f n.0)))

unfoldable pub rotations_text : (ℕ → ℕ) → List NativeNumber → List ℕ
rotations_text f [] = []
rotations_text f (n ∷ ns) = rotation_text f n ++ rotations_text f ns

-- ---- shifts

-- the automorphism instructions among some, one each
abbrev pub shifts_in : List BicycleISA → ℕ
shifts_in [] = 0
shifts_in (Automorphism a ∷ is) = 1 + shifts_in is
shifts_in (Measure b ∷ is) = shifts_in is

-- those of a native
abbrev pub shifts_of : NativeNumber → ℕ
shifts_of n = shifts_in (expansion (implementation (native_of n.0)))

-- each rotation runs twice
unfoldable pub rotation_shifts : List NativeNumber → ℕ
rotation_shifts [] = 0
rotation_shifts (n ∷ ns) = 2 * shifts_of n + rotation_shifts ns

-- and the base once
abbrev pub shifts : NativeNumber → List NativeNumber → ℕ
shifts base ns = rotation_shifts ns + shifts_of base

-- ---- the listing

-- what stands before the rotations: m is measured by count rotations on the base, in k shifts
abbrev pub head_text : ℕ → ℕ → ℕ → NativeNumber → List ℕ
head_text m count k base =
    line_of "measures=" (text qubits m) ++ line_of "count=" (decimal count) ++ line_of "shifts=" (decimal k) ++ base_text base

-- f gives the natives' strings, m is what is measured
unfoldable pub listing : (ℕ → ℕ) → ℕ → NativeNumber → List NativeNumber → List ℕ
listing f m base ns = head_text m (length ns) (shifts base ns) base ++ rotations_text f ns

unfoldable pub plan_text : Plan → List ℕ
plan_text p = listing (strings_of p.pair) (measured p) p.base p.rotations

-- a refusal prints its number only
abbrev pub refusal_text : Refusal → List ℕ
refusal_text r = line_of "refused=" (decimal (number_of r))

abbrev pub text_of : Result Plan Refusal → List ℕ
text_of (Ok p) = plan_text p
text_of (Err r) = refusal_text r

-- all that `plan` prints for the input s
unfoldable pub output : List ℕ → List ℕ
output s = text_of (read_plan s)
