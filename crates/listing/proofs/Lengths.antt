-- No output has more than 17,496 bytes, which are 22 + 10 + 12 + 44 + 256 * 68, line by line, and the first 3,418 bytes of an input decide it.
-- Assumes nothing.
use Rattle.std.specs.Prelude.{Option, Some, None}
use Rattle.bicycle_common.specs.declared.Pauli.{Pauli}
use Rattle.std.specs.Prelude.{Result, Ok, Err}
use mathlib.Core.Bool.{Bool, true, false, cond}
use mathlib.Core.List.{List, [], ◌∷◌}
use mathlib.Core.Path.{◌≡◌, refl, ap}
use Prim.Native.Nat.{ℕ, ◌*◌, ◌≤◌, ◌<◌}
use native.Mathlib.Omega.{arith}
use lib.Dec.{ltb}
use lib.ListN.{length, take, length-append}
use Rattle.bicycle_common.specs.declared.Refusal.{Refusal}
use Rattle.bicycle_common.specs.declared.Refusal.TheVariants.{TableLength, QueueLength, Matrix, StringRange, Identity, PivotSet, NoEntry, BadEntry, Room, PivotIdentity, NativeRange, PlanInput, NotLetters, QubitRange}
use Rattle.bicycle_common.specs.Letters.{anticommuting_letters}
use Rattle.bicycle_common.specs.Refusals.{number_of}
use Rattle.text.specs.Decimals.{decimal}
use Rattle.text.proofs.Written.{decimal_length}
use Rattle.pauli_string.specs.Strings.{qubits, letter_at}
use Rattle.pauli_string.proofs.Text.{length_text}
use Rattle.native_measurement.specs.declared.NativeMeasurement.{NativeMeasurement}
use Rattle.native_measurement.specs.declared.NativeNumber.{NativeNumber}
use Rattle.native_measurement.specs.Natives.{natives, native_of}
use Rattle.native_measurement.specs.Answers.{implementation}
use Rattle.table.specs.Plans.{All, Supported}
use Rattle.compile.specs.Expansions.{around, rotation_by, expansion, expansion_text, spaced}
use Rattle.reader.specs.Plans.{Plan, strings_of, numbers, measured, read_plan}
use Rattle.reader.specs.Sound.{Sound}
use Rattle.reader.proofs.Sound.{read_sound}
use Rattle.reader.proofs.Bound.{read_bounded}
use Rattle.listing.specs.Listings.{base_text, rotation_text, rotations_text, shifts, listing, plan_text, refusal_text, text_of, output}
use Rattle.listing.proofs.ShiftCount.{shifts_count}

-- ---- one native

-- its instructions, where there are any
native_length : (t : Bool) (m : NativeMeasurement) → length (expansion_text (expansion (cond t (implementation m) (Err NativeRange)))) ≤ 27
unfolding spaced
native_length true m = omega arith
native_length false m = omega arith

-- one more before and one behind
around_length : (l : Option (Pauli × Pauli)) (t : Bool) (m : NativeMeasurement)
    → length (expansion_text (expansion (around l (cond t (implementation m) (Err NativeRange))))) ≤ 47
unfolding spaced
around_length None t m = omega arith
around_length (Some (p0, p1)) true m = omega arith
around_length (Some (p0, p1)) false m = omega arith

number_length : (n : NativeNumber) → n.0 < natives → length (decimal n.0) ≤ 3
number_length n h = decimal_length n.0 2 (omega arith)

base_length : (n : NativeNumber) → n.0 < natives → length (base_text n) ≤ 44
unfolding base_text
base_length n h = simp length-append (omega (arith, number_length n h, native_length (ltb n.0 natives) (native_of n.0)))

module _ (f : ℕ → ℕ) where
  rotation_length : (n : NativeNumber) → n.0 < natives → length (rotation_text f n) ≤ 68
  unfolding rotation_text rotation_by
  rotation_length n h =
      simp length-append
      (omega (arith, number_length n h, around_length (anticommuting_letters (letter_at qubits (f n.0) 0)) (ltb n.0 natives) (native_of n.0)))

  rotations_length : (ns : List NativeNumber) → All (Supported qubits f) (numbers ns) → length (rotations_text f ns) ≤ 68 * length ns
  unfolding rotations_text
  rotations_length [] a = omega arith
  rotations_length (n ∷ ns) a = rw length-append (omega (arith, rotation_length n a.0.0, rotations_length ns a.1))

-- ---- the whole

plan_length : (p : Plan) → Sound p → length (plan_text p) ≤ 17496
unfolding plan_text listing
plan_length p s =
    let f = strings_of p.pair in
    let m = length_text qubits (measured p) in
    let c = decimal_length (length p.rotations) 2 (omega (arith, s.few)) in
    let d = decimal_length (shifts p.base p.rotations) 3 (omega (arith, s.few, shifts_count p.base p.rotations)) in
    let b = base_length p.base s.gives.base_below in
    let r = rotations_length f p.rotations s.gives.supported in
    simp length-append (omega (arith, s.few))

number_small : (r : Refusal) → number_of r ≤ 14
number_small TableLength = omega arith
number_small QueueLength = omega arith
number_small Matrix = omega arith
number_small StringRange = omega arith
number_small Identity = omega arith
number_small PivotSet = omega arith
number_small NoEntry = omega arith
number_small BadEntry = omega arith
number_small (Room n) = omega arith
number_small PivotIdentity = omega arith
number_small NativeRange = omega arith
number_small PlanInput = omega arith
number_small NotLetters = omega arith
number_small QubitRange = omega arith

refusal_length : (r : Refusal) → length (refusal_text r) ≤ 11
refusal_length r = simp length-append (omega (arith, decimal_length (number_of r) 1 (omega (arith, number_small r))))

text_length : (x : Result Plan Refusal) → ((p : Plan) → x ≡ Ok p → Sound p) → length (text_of x) ≤ 17496
text_length (Ok p) h = plan_length p (h p refl)
text_length (Err r) h = omega (arith, refusal_length r)

pub output_length : (s : List ℕ) → length (output s) ≤ 17496
unfolding output
output_length s = text_length (read_plan s) (read_sound s)

-- the first n bytes of an input decide the output, for any n from 3,418 on
pub output_bounded : (n : ℕ) (s : List ℕ) → 3417 < n → output (take n s) ≡ output s
unfolding output
output_bounded n s h = ap text_of (read_bounded n s h)
