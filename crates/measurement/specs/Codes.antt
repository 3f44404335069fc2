-- The matrix pairs of the gross and the two-gross code, by rows, as in the original. Assumes nothing.
use mathlib.Core.List.{List, [], ◌∷◌, flat_map}
use Rattle.std.specs.Prelude.{ℕ}
use Prim.Native.String.{String}
use Rattle.bicycle_common.specs.Bytes.{bytes_of, digit_numbers}
use Rattle.measurement.specs.Matrices.{side, by_rows}
use Rattle.measurement.specs.declared.CodeMeasurement.{CodeMeasurement}
use Rattle.measurement.specs.declared.MeasurementChoices.{MeasurementChoices}
use Rattle.measurement.specs.declared.MeasurementChoices.TheVariants.{Gross, TwoGross}

-- two matrices as one value
abbrev pub pair_of : List (List ℕ) → List (List ℕ) → CodeMeasurement
pair_of mx my = record { mx = by_rows side mx; my = by_rows side my }

-- the numbers of a text of digits
abbrev pub digits_of : String → List ℕ
digits_of s = digit_numbers (bytes_of s)

-- a matrix, row by row
abbrev rows : List String → List ℕ
rows l = flat_map digits_of l

abbrev pub code_pair : MeasurementChoices → CodeMeasurement
code_pair Gross = record {
  mx = rows ("010100" ∷ "010001" ∷ "001100" ∷ "110110" ∷ "010010" ∷ "111101" ∷ []);
  my = rows ("100001" ∷ "111001" ∷ "000010" ∷ "010000" ∷ "011001" ∷ "001101" ∷ []);
}
code_pair TwoGross = record {
  mx = rows ("011101" ∷ "101011" ∷ "101010" ∷ "101111" ∷ "011111" ∷ "100110" ∷ []);
  my = rows ("111110" ∷ "110111" ∷ "011000" ∷ "100010" ∷ "100111" ∷ "100001" ∷ []);
}
