-- What is promised of plans and their listings: document 01's own example and an input for each refusal; which line decides; what is read is a
-- true plan; what a plan measures; a listing states its plan again; and how much of an input matters. That the worked inputs print what stands
-- here, and that `plan` prints the whole output, is proved in `proofs/Listings.antt`. Assumes nothing.
use Rattle.std.specs.Prelude.{List, [], ◌∷◌, ◌++◌, ◌≡◌, ℕ, ◌+◌, ◌*◌, ◌<◌, ◌≤◌, length, take, drop, Result, Ok, Err}
use Rattle.std.proofs.Common.{ap, ◌∙◌, arith, lt-ltb}
use Prim.Native.String.{String}
use Rattle.bicycle_common.specs.declared.Refusal.{Refusal}
use Rattle.bicycle_common.specs.declared.Refusal.TheVariants.{Identity, Room, PlanInput}
use Rattle.bicycle_common.specs.Refusals.{refused}
use Rattle.bicycle_common.specs.Bytes.{bytes_of}
use Rattle.text.specs.Fronts.{Written, told_write}
use Rattle.pauli_string.specs.Strings.{qubits}
use Rattle.native_measurement.specs.declared.NativeNumber.{NativeNumber}
use Rattle.measurement.specs.declared.CodeMeasurement.{CodeMeasurement}
use Rattle.table.specs.Plans.{Gives}
use Rattle.reader.specs.Lines.{newline, lines, line_at}
use Rattle.reader.specs.Plans.{Plan, strings_of, numbers, measured_by, measured, most_rotations, matrix_line, native_line, rotation_line, rotation_lines, plan_from, native_lines, read_lines, read_plan}
use Rattle.reader.specs.Answers.{stated as stated_plan, told_plan}
use Rattle.reader.proofs.First.{bad_behind, full_behind}
use Rattle.reader.proofs.Sound.{read_gives}
use Rattle.reader.proofs.Measured.{measures_zero, zero_base}
use Rattle.reader.proofs.Bound.{read_length}
use Rattle.listing.specs.Listings.{shifts, output}
use Rattle.listing.specs.Stated.{stated, matrices}
use Rattle.listing.proofs.ShiftCount.{shifts_count}
use Rattle.listing.proofs.Lengths.{output_length, output_bounded}
use Rattle.listing.proofs.ReadBack.{read_back, list_back}

-- ---- worked inputs

-- lines, each with its end
abbrev pub ended : List String → List ℕ
ended [] = []
ended (l ∷ ls) = bytes_of l ++ newline ∷ ended ls

-- lines of input, and all that is printed for them
pub record Row : Type 0 where
  pub input : List String
  pub printed : List String

abbrev pub row : List String → List String → Row
row is os = record { input = is; printed = os }

abbrev x : String
x = "mx=100000110000001000000100000010000001"

abbrev y : String
y = "my=100000010000001000000100000010000001"

-- the example
abbrev pub example_input : List String
example_input = x ∷ y ∷ "base=440" ∷ "rotation=533" ∷ []

abbrev pub example_output : List String
example_output =
    "measures=IIIIXYIIIIIX"
    ∷ "count=1"
    ∷ "shifts=6"
    ∷ "base=440"
    ∷ "expand=aut(4,5) meas(X,Z) aut(2,1)"
    ∷ "rotation=533"
    ∷ "expand=meas(X,I) aut(5,5) meas(Z,X) aut(1,1) meas(Y,I)"
    ∷ []

-- and the refusals: no line, a needless zero, a digit over 1 before a bad line, a number over 539, a pivotless rotation, nothing measured
abbrev pub rows : List Row
rows =
    row example_input example_output
    ∷ row [] ("refused=12" ∷ [])
    ∷ row (x ∷ y ∷ "base=044" ∷ []) ("refused=12" ∷ [])
    ∷ row (x ∷ "my=200000010000001000000100000010000001" ∷ "base=1000" ∷ []) ("refused=3" ∷ [])
    ∷ row (x ∷ y ∷ "base=540" ∷ []) ("refused=11" ∷ [])
    ∷ row (x ∷ y ∷ "base=440" ∷ "rotation=0" ∷ []) ("refused=10" ∷ [])
    ∷ row ("mx=000000000000000000000000000000000000" ∷ "my=000000000000000000000000000000000000" ∷ "base=539" ∷ []) ("refused=5" ∷ [])
    ∷ []

-- ---- which line decides

module _ (s : List ℕ) where
  -- the lines, from the third on and from the fourth on
  abbrev bases : List (List ℕ)
  bases = drop 2 (lines s)

  abbrev turns : List (List ℕ)
  turns = drop 1 bases

  -- the first line, whatever follows it
  pub first_decides : (r : Refusal) → matrix_line (bytes_of "mx=") (line_at 0 (lines s)) ≡ Err r → read_plan s ≡ Err r
  unfolding read_plan read_lines
  first_decides r e = rw e

  module _ (mx : List ℕ) (x : matrix_line (bytes_of "mx=") (line_at 0 (lines s)) ≡ Ok mx) where
    -- the second, where the first is good
    pub second_decides : (r : Refusal) → matrix_line (bytes_of "my=") (line_at 1 (lines s)) ≡ Err r → read_plan s ≡ Err r
    unfolding read_plan read_lines
    second_decides r e = rw (x, e)

    module _ (my : List ℕ) (y : matrix_line (bytes_of "my=") (line_at 1 (lines s)) ≡ Ok my) where
      abbrev pair : CodeMeasurement
      pair = record { mx = mx; my = my }

      -- the third, where these are
      pub third_decides : (r : Refusal) → native_line (bytes_of "base=") (line_at 0 bases) ≡ Err r → read_plan s ≡ Err r
      unfolding read_plan read_lines native_lines
      third_decides r e = rw (x, y, e)

      module _ (base : NativeNumber) (b : native_line (bytes_of "base=") (line_at 0 bases) ≡ Ok base) where
        -- the first bad one of the others, among the first 256 of them
        pub rotation_decides : (before after : List (List ℕ)) (l : List ℕ) (ns : List NativeNumber) (r : Refusal) → turns ≡ before ++ l ∷ after → length before < most_rotations
            → rotation_lines (strings_of pair) (length before) before ≡ Ok ns → rotation_line (strings_of pair) l ≡ Err r → read_plan s ≡ Err r
        unfolding read_plan read_lines native_lines plan_from
        rotation_decides before after l ns r t h g e =
            let d : rotation_lines (strings_of pair) most_rotations turns ≡ Err r = rw t (bad_behind (strings_of pair) after l before ns r most_rotations h g e) in
            rw (x, y, b, d)

        -- a 257th gives 12, whatever it says
        pub one_too_many : (before after : List (List ℕ)) (l : List ℕ) (ns : List NativeNumber) → turns ≡ before ++ l ∷ after → length before ≡ most_rotations
            → rotation_lines (strings_of pair) (length before) before ≡ Ok ns → read_plan s ≡ Err PlanInput
        unfolding read_plan read_lines native_lines plan_from
        one_too_many before after l ns t h g =
            let d : rotation_lines (strings_of pair) most_rotations turns ≡ Err PlanInput = rw (t, ← h) (full_behind (strings_of pair) after l before ns g) in
            rw (x, y, b, d)

        -- 5 where every line is good
        pub good_measures_0 : (ns : List NativeNumber) → rotation_lines (strings_of pair) most_rotations turns ≡ Ok ns → measured_by (strings_of pair) base ns ≡ 0 → read_plan s ≡ Err Identity
        unfolding read_plan read_lines native_lines plan_from
        good_measures_0 ns d z = rw (x, y, b, d, z)

-- a plan that is refused carries zeros: two matrices, the base, what is measured, the count, the rotations
pub refused_plan : (s : List ℕ) (r : Refusal) → read_plan s ≡ Err r → told_plan (stated_plan (read_plan s)) ≡ refused (36 + 36 + 3 + 256) r
refused_plan s r e = ap (λ (x : Result Plan Refusal). told_plan (stated_plan x)) e

-- ---- what is read

module _ (s : List ℕ) (p : Plan) (e : read_plan s ≡ Ok p) where
  -- the base is a native, the rotations are natives with pivot support, and applied in order to the base they give what is measured
  pub plan_is_true : Gives qubits (strings_of p.pair) p.base.0 (numbers p.rotations) (measured p)
  plan_is_true = read_gives s p e

  -- the listing's own `base=` and `rotation=` lines, put behind the matrices, are read back to the same plan
  pub stated_again : read_plan (matrices s ++ stated (output s)) ≡ Ok p
  stated_again = read_back s p e

  -- and print the same listing
  pub listed_again : output (matrices s ++ stated (output s)) ≡ output s
  listed_again = list_back s p e

  -- no input that is accepted is longer
  pub longest_input : length s ≤ 3417
  longest_input = read_length s p e

-- a plan measures 0 exactly when its base string is 0
module _ (p : Plan) where
  pub zero_where_base_is : strings_of p.pair p.base.0 ≡ 0 → measured p ≡ 0
  zero_where_base_is = measures_zero p

  pub zero_only_where_base_is : measured p ≡ 0 → strings_of p.pair p.base.0 ≡ 0
  zero_only_where_base_is = zero_base p

-- the automorphism instructions, each rotation run twice and the base once, are 2·(2·count+1)
pub shifts_counted : (base : NativeNumber) (ns : List NativeNumber) → shifts base ns ≡ 2 * (2 * length ns + 1)
shifts_counted = shifts_count

-- ---- how much matters

-- the first 3,418 bytes decide the output, and so do any more of them
pub front_decides : (n : ℕ) (s : List ℕ) → 3418 ≤ n → output (take n s) ≡ output s
front_decides n s h = output_bounded n s (omega arith)

-- no output is longer
pub longest_output : (s : List ℕ) → length (output s) ≤ 17496
longest_output = output_length

-- 9 where there is no room for all of it, with the length needed; the buffer is as it was
module _ (s out after : List ℕ) (r : Result ℕ Refusal) (w : Written (Ok (output s)) out r after) (h : length out < length (output s)) where
  pub no_room_9 : told_write r ≡ refused 1 (Room (length (output s)))
  no_room_9 = ap told_write w.answer ∙ simp (lt-ltb (length out) (length (output s)) h)

  pub nothing_written : after ≡ out
  nothing_written = w.buffer ∙ simp (lt-ltb (length out) (length (output s)) h)
