-- What is proved of `specs/Listings.antt` on top of what stands there: document 01's own example and an input for each refusal, computed; and
-- that the program prints the whole output. They stand here, so that a wrong definition or a wrong bound reads well and is refused at a theorem.
-- Assumes nothing.
use Rattle.bicycle_common.specs.declared.Refusal.{Refusal}
use Rattle.std.specs.Prelude.{List, [], ◌++◌, map, ◌≡◌, refl, ℕ, ◌≤◌, length, get_or, take, drop, Result, Ok}
use Rattle.std.proofs.Common.{ap, subst, ◌∙◌, arith, le-ltb}
use Rattle.std.proofs.Math.Seq.{take-append_seam}
use Rattle.bicycle_common.specs.Letters.{rank, same, clash}
use Rattle.bicycle_common.specs.Ranges.{sum, all_below, list_from}
use Rattle.text.specs.Fronts.{Written}
use Rattle.text.specs.Decimals.{digits_up_to, decimal, number_from, is_number}
use Rattle.pauli_string.specs.Strings.{bit, letter_at, clashes, commute, conj, pivot_bits, blank, has_pivot, rotate}
use Rattle.pauli_string.specs.Text.{letters, text}
use Rattle.native_measurement.specs.Natives.{native_of}
use Rattle.measurement.specs.Matrices.{one, mul, pow, is_binary}
use Rattle.measurement.specs.Measures.{action, packed, placed, measured as measured_of, native_string}
use Rattle.compile.specs.Expansions.{rotation_by, spaced}
use Rattle.reader.specs.Lines.{lines, begins, is_line}
use Rattle.reader.specs.Plans.{matrix_line, native_line, rotation_line, rotation_lines, plan_from, native_lines, read_lines, read_plan}
use Rattle.listing.specs.Listings.{base_text, rotation_text, rotations_text, rotation_shifts, listing, plan_text, output}
use Rattle.promises.specs.Listings.{ended, Row, example_input, example_output, rows, front_decides, longest_output}

pub every_output_is_right : map (λ (r : Row). output (ended r.input)) rows ≡ map (λ (r : Row). ended r.printed) rows
unfolding rank same clash sum all_below list_from digits_up_to decimal number_from is_number bit letter_at clashes commute conj pivot_bits blank has_pivot rotate letters text native_of one mul pow is_binary action packed placed measured_of native_string rotation_by spaced lines begins is_line matrix_line native_line rotation_line rotation_lines plan_from native_lines read_lines read_plan base_text rotation_text rotations_text rotation_shifts listing plan_text output
every_output_is_right = refl

pub example : output (ended example_input) ≡ ended example_output
example = ap (λ (l : List (List ℕ)). get_or l 0 []) every_output_is_right

-- so `plan`, which lends the first 4,096 bytes of its input and 65,536 bytes for the text, prints the whole output of every input
module _ (s out after : List ℕ) (r : Result ℕ Refusal) (long : length out ≡ 65536) (w : Written (Ok (output (take 4096 s))) out r after) where
  whole : output (take 4096 s) ≡ output s
  whole = front_decides 4096 s (omega arith)

  written : Written (Ok (output s)) out r after
  written = subst (λ (t : List ℕ). Written (Ok t) out r after) whole w

  fits : length (output s) ≤ length out
  fits = omega (arith, longest_output s)

  pub program_answers : r ≡ Ok (length (output s))
  program_answers = written.answer ∙ simp (le-ltb (length out) (length (output s)) fits)

  pub program_prints : take (length (output s)) after ≡ output s
  program_prints =
      let b : after ≡ output s ++ drop (length (output s)) out = written.buffer ∙ simp (le-ltb (length out) (length (output s)) fits) in
      rw b (take-append_seam (output s) (drop (length (output s)) out))
