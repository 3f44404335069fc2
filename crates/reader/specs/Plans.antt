-- Plans, and how one is read, line by line: the first bad line decides, and a line that is missing is bad where it is due. Assumes nothing.
use Rattle.std.specs.Prelude.{Result, Ok, Err}
use Rattle.bicycle_common.specs.declared.Refusal.{Refusal}
use Rattle.std.specs.Prelude.{cond, ◌&&◌, List, [], ◌∷◌, map, ℕ, zero, suc, ◌*◌, eqb, ltb, length, drop}
use Rattle.bicycle_common.specs.declared.Refusal.TheVariants.{Matrix, Identity, PivotIdentity, NativeRange, PlanInput}
use Rattle.bicycle_common.specs.Bytes.{bytes_of, digit_numbers}
use Rattle.text.specs.Reads.{on}
use Rattle.text.specs.Decimals.{all_digits, number_in, is_number}
use Rattle.pauli_string.specs.Strings.{qubits, has_pivot}
use Rattle.native_measurement.specs.declared.NativeNumber.{NativeNumber}
use Rattle.native_measurement.specs.Natives.{natives}
use Rattle.measurement.specs.declared.CodeMeasurement.{CodeMeasurement}
use Rattle.measurement.specs.Matrices.{side, is_bytes}
use Rattle.measurement.specs.Measures.{pair_string}
use Rattle.table.specs.Plans.{applied}
use Rattle.reader.specs.Lines.{lines, line_at, is_line, value_in}

-- ---- plans

-- a native, its base, and rotations by natives, the one on the base side first, on the code of a pair of matrices
pub record Plan : Type 0 where
  pub pair : CodeMeasurement
  pub base : NativeNumber
  pub rotations : List NativeNumber

-- the strings of the natives of a pair
abbrev pub strings_of : CodeMeasurement → ℕ → ℕ
strings_of c = pair_string side c.mx c.my

-- the number of each native
abbrev pub numbers : List NativeNumber → List ℕ
numbers ns = map (λ (n : NativeNumber). n.0) ns

-- the string that a plan measures, where f gives the natives' strings: the rotations, their pivots blanked, applied in order to the base
abbrev pub measured_by : (ℕ → ℕ) → NativeNumber → List NativeNumber → ℕ
measured_by f base ns = applied qubits f (f base.0) (numbers ns)

abbrev pub measured : Plan → ℕ
measured p = measured_by (strings_of p.pair) p.base p.rotations

-- ---- one line

-- `mx=` or `my=`, 36 decimal digits: a digit over 1 gives 3, anything else 12
unfoldable pub matrix_line : List ℕ → List ℕ → Result (List ℕ) Refusal
matrix_line name l =
    cond (is_line name l && eqb (length (value_in name l)) (side * side) && all_digits (value_in name l))
    (cond (is_bytes side (digit_numbers (value_in name l))) (Ok (digit_numbers (value_in name l))) (Err Matrix))
    (Err PlanInput)

-- a native: a number over 539 gives 11
abbrev pub in_range : ℕ → Result NativeNumber Refusal
in_range n = cond (ltb n natives) (Ok (record { 0 = n })) (Err NativeRange)

-- `base=` or `rotation=`, and a native
unfoldable pub native_line : List ℕ → List ℕ → Result NativeNumber Refusal
native_line name l = cond (is_line name l && is_number (value_in name l)) (in_range (number_in (value_in name l))) (Err PlanInput)

-- a rotation: 10 where its string has no letter on the pivot
abbrev pub supported : (ℕ → ℕ) → NativeNumber → Result NativeNumber Refusal
supported f n = cond (has_pivot qubits (f n.0)) (Ok n) (Err PivotIdentity)

unfoldable pub rotation_line : (ℕ → ℕ) → List ℕ → Result NativeNumber Refusal
rotation_line f l = on (native_line (bytes_of "rotation=") l) (supported f)

-- ---- all lines

-- a plan has at most 256 rotations
abbrev pub most_rotations : ℕ
most_rotations = 256

-- at most k rotation lines; one more gives 12, whatever it says
unfoldable pub rotation_lines : (ℕ → ℕ) → ℕ → List (List ℕ) → Result (List NativeNumber) Refusal
rotation_lines f k [] = Ok []
rotation_lines f zero (l ∷ ls) = Err PlanInput
rotation_lines f (suc k) (l ∷ ls) =
    on (rotation_line f l) (λ (n : NativeNumber). on (rotation_lines f k ls) (λ (ns : List NativeNumber). Ok (n ∷ ns)))

-- a plan that measures 0 gives 5
abbrev pub nonzero : Plan → Result Plan Refusal
nonzero p = cond (eqb (measured p) 0) (Err Identity) (Ok p)

-- the rotation lines, behind the pair and the base
unfoldable pub plan_from : CodeMeasurement → NativeNumber → List (List ℕ) → Result Plan Refusal
plan_from c base ls =
    on (rotation_lines (strings_of c) most_rotations ls)
    (λ (ns : List NativeNumber). nonzero (record { pair = c; base = base; rotations = ns }))

-- the base and the rotations, behind the pair
unfoldable pub native_lines : CodeMeasurement → List (List ℕ) → Result Plan Refusal
native_lines c ls = on (native_line (bytes_of "base=") (line_at 0 ls)) (λ (base : NativeNumber). plan_from c base (drop 1 ls))

-- the two matrices, the base, the rotations
unfoldable pub read_lines : List (List ℕ) → Result Plan Refusal
read_lines ls =
    on (matrix_line (bytes_of "mx=") (line_at 0 ls))
    (λ (mx : List ℕ). on (matrix_line (bytes_of "my=") (line_at 1 ls))
    (λ (my : List ℕ). native_lines (record { mx = mx; my = my }) (drop 2 ls)))

unfoldable pub read_plan : List ℕ → Result Plan Refusal
read_plan s = read_lines (lines s)
