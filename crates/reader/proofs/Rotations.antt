-- The rotation lines, read one after another: what is known before each, what a bad one decides, and the plan behind the last. Assumes nothing.
use Rattle.std.specs.Prelude.{Result, Ok, Err}
use mathlib.Core.Path.{◌≡◌, refl, sym, ap, subst, ◌∙◌}
use mathlib.Core.Bool.{cond}
use mathlib.Core.List.{List, [], ◌∷◌, ◌++◌, append_assoc, append-nil, map-append}
use Prim.Native.Nat.{ℕ, suc, ◌+◌, ◌-◌, ◌^◌, ◌≤◌, ◌<◌}
use native.Mathlib.Numerals.{add-one}
use native.Mathlib.Omega.{arith}
use lib.Dec.{eqb}
use lib.ListN.{length, take, drop, set, replicate, length-set, take-append-drop}
use lib.Seq.{length-take-le, take-suc-set, drop-set-lt, drop-drop}
use borrow.Author.Tests.{eq-eqb, ne_eqb}
use Rattle.bicycle_common.specs.declared.Refusal.{Refusal}
use Rattle.bicycle_common.specs.declared.Refusal.TheVariants.{Identity, PivotIdentity, PlanInput}
use Rattle.bicycle_common.specs.Bytes.{bytes_of}
use Rattle.pauli_string.specs.Strings.{qubits, has_pivot, rotate}
use Rattle.pauli_string.proofs.Pivot.{rotate_string}
use Rattle.native_measurement.specs.declared.NativeNumber.{NativeNumber}
use Rattle.native_measurement.specs.Natives.{natives}
use Rattle.measurement.specs.declared.CodeMeasurement.{CodeMeasurement}
use Rattle.table.specs.Plans.{applied}
use Rattle.table.proofs.Applied.{applied_append}
use Rattle.reader.specs.declared.StatedPlan.{StatedPlan}
use Rattle.reader.specs.Lines.{lines, line_length}
use Rattle.text.specs.Reads.{on}
use Rattle.reader.specs.Plans.{Plan, strings_of, numbers, measured_by, native_line, supported, rotation_line, most_rotations, rotation_lines, plan_from}
use Rattle.reader.specs.Answers.{native0, stated}
use Rattle.reader.proofs.Lines.{lines_none, lines_cons}
use Rattle.reader.proofs.Good.{native_small}
use Rattle.reader.proofs.Sound.{rotation_good}
use Rattle.reader.proofs.Measured.{native_string_law}

-- ---- one line

-- a rotation reads only the string of its native, which is one of the 540
module _ (f g : ℕ → ℕ) (h : (n : ℕ) → n < natives → f n ≡ g n) (l : List ℕ) where
  rotation_by_law : (x : Result NativeNumber Refusal) → native_line (bytes_of "rotation=") l ≡ x → on x (supported f) ≡ on x (supported g)
  rotation_by_law (Ok n) e = ap (λ (p : ℕ). cond (has_pivot qubits p) (Ok n) (Err PivotIdentity)) (h n.0 (native_small (bytes_of "rotation=") l n e))
  rotation_by_law (Err r) e = refl

  rotation_same : rotation_line f l ≡ rotation_line g l
  unfolding rotation_line
  rotation_same = rotation_by_law (native_line (bytes_of "rotation=") l) refl

-- ---- all lines

-- more natives behind those that are there
abbrev behind : List NativeNumber → List NativeNumber → Result (List NativeNumber) Refusal
behind front ns = Ok (front ++ ns)

behind_none : (x : Result (List NativeNumber) Refusal) → x ≡ on x (behind [])
behind_none (Ok ns) = refl
behind_none (Err r) = refl

behind_more : (front : List NativeNumber) (n : NativeNumber) (x : Result (List NativeNumber) Refusal)
    → on (on x (λ (ns : List NativeNumber). Ok (n ∷ ns))) (behind front) ≡ on x (behind (front ++ (n ∷ [])))
behind_more front n (Ok ns) = ap Ok (sym (append_assoc front (n ∷ []) ns))
behind_more front n (Err r) = refl

-- one rotation more
measured_more : (f : ℕ → ℕ) (p : ℕ) (ns : List NativeNumber) (n : NativeNumber)
    → applied qubits f p (numbers (ns ++ (n ∷ []))) ≡ rotate qubits (applied qubits f p (numbers ns)) (f n.0)
measured_more f p ns n = rw (map-append (λ (m : NativeNumber). m.0) ns (n ∷ [])) (applied_append qubits f p (numbers ns) n.0)

-- Of all lines some are left. Those before them are read: the array holds `count` rotations and zeros behind them, and m is measured so far.
pub record Reading (f : ℕ → ℕ) (base : NativeNumber) (all left : List (List ℕ)) (rotations : List NativeNumber) (count m : ℕ) : Type 0 where
  pub room : count ≤ most_rotations
  pub long : length rotations ≡ most_rotations
  pub reads : rotation_lines f most_rotations all ≡ on (rotation_lines f (most_rotations - count) left) (behind (take count rotations))
  pub measures : m ≡ measured_by f base (take count rotations)
  pub string : m < 4 ^ qubits
  pub zeros : drop count rotations ≡ replicate (most_rotations - count) native0

reading_none : (f : ℕ → ℕ) (base : NativeNumber) (all : List (List ℕ)) → f base.0 < 4 ^ qubits
    → Reading f base all all (replicate most_rotations native0) 0 (f base.0)
reading_none f base all h = record {
  room = omega arith;
  long = refl;
  reads = behind_none (rotation_lines f most_rotations all);
  measures = refl;
  string = h;
  zeros = refl;
}

-- before a line
module _ {f : ℕ → ℕ} {base : NativeNumber} {all : List (List ℕ)} {l : List ℕ} {ls : List (List ℕ)} {rotations : List NativeNumber} {count m : ℕ}
    (r : Reading f base all (l ∷ ls) rotations count m) where
  reading_full : count ≡ most_rotations → rotation_lines f most_rotations all ≡ Err PlanInput
  unfolding rotation_lines
  reading_full e = r.reads ∙ rw e

  module _ (h : count < most_rotations) where
    one_less : most_rotations - count ≡ suc (most_rotations - (count + 1))
    one_less = omega arith

    reading_bad : (x : Refusal) → rotation_line f l ≡ Err x → rotation_lines f most_rotations all ≡ Err x
    unfolding rotation_lines
    reading_bad x e = r.reads ∙ rw (one_less, e)

    module _ (n : NativeNumber) where
      grown : take (count + 1) (set rotations count n) ≡ take count rotations ++ (n ∷ [])
      grown = rw add-one (take-suc-set rotations count n (omega (arith, r.long)))

      shrunk : drop (count + 1) (set rotations count n) ≡ replicate (most_rotations - (count + 1)) native0
      shrunk = drop-set-lt (count + 1) rotations count n (omega arith) ∙ sym (drop-drop 1 count rotations) ∙ rw (r.zeros, one_less)

      reading_more : rotation_line f l ≡ Ok n → f n.0 < 4 ^ qubits
          → Reading f base all ls (set rotations count n) (count + 1) (rotate qubits m (f n.0))
      unfolding rotation_lines
      reading_more e s = record {
        room = omega arith;
        long = length-set rotations count n ∙ r.long;
        reads = r.reads ∙ rw (one_less, e, grown) (behind_more (take count rotations) n (rotation_lines f (most_rotations - (count + 1)) ls));
        measures = rw (grown, r.measures) (sym (measured_more f (f base.0) (take count rotations) n));
        string = rotate_string qubits m (f n.0) r.string s;
        zeros = shrunk;
      }

-- ---- the plan

plan_bad : (c : CodeMeasurement) (base : NativeNumber) (all : List (List ℕ)) (x : Refusal) → rotation_lines (strings_of c) most_rotations all ≡ Err x
    → plan_from c base all ≡ Err x
unfolding plan_from
plan_bad c base all x e = rw e

-- behind the last line
module _ (c : CodeMeasurement) {base : NativeNumber} {all : List (List ℕ)} {rotations : List NativeNumber} {count m : ℕ}
    (r : Reading (strings_of c) base all [] rotations count m) where
  abbrev plan : Plan
  plan = record { pair = c; base = base; rotations = take count rotations }

  plan_is : plan_from c base all ≡ cond (eqb m 0) (Err Identity) (Ok plan)
  unfolding plan_from rotation_lines
  plan_is =
      rw (r.reads, append-nil (take count rotations)) (ap (λ (k : ℕ). cond (eqb k 0) (Err Identity) (Ok plan)) (sym r.measures))

  pub plan_zero : m ≡ 0 → plan_from c base all ≡ Err Identity
  plan_zero e = plan_is ∙ simp (eq-eqb m 0 e)

  plan_some : (m ≡ 0 → ⊥) → plan_from c base all ≡ Ok plan
  plan_some some = plan_is ∙ simp (ne_eqb m 0 some)

  abbrev answer : ℕ → List NativeNumber → StatedPlan
  answer k ns = record { pair = c; base = base; measures = record { 0 = m }; count = k; rotations = ns }

  pub plan_good : (m ≡ 0 → ⊥) → Ok (answer count rotations) ≡ stated (plan_from c base all)
  plan_good some =
      let n : length (take count rotations) ≡ count = length-take-le count rotations (omega (arith, r.long)) in
      let whole : take count rotations ++ replicate (most_rotations - count) native0 ≡ rotations = rw (← r.zeros) (take-append-drop count rotations) in
      sym (ap stated (plan_some some) ∙ rw (n, ← r.measures) (ap (λ (ns : List NativeNumber). Ok (answer count ns)) whole))

-- ---- in a text, where g gives the natives' strings

module _ (c : CodeMeasurement) (g : ℕ → ℕ) (q : (n : ℕ) → n < natives → g n ≡ strings_of c n) where
  pub text_start : (base : NativeNumber) (all : List (List ℕ)) → base.0 < natives
      → Reading (strings_of c) base all all (replicate most_rotations native0) 0 (g base.0)
  text_start base all h = rw (q base.0 h) (reading_none (strings_of c) base all (native_string_law c base.0))

  -- the lines of s are left
  module _ {base : NativeNumber} {all : List (List ℕ)} {rotations : List NativeNumber} {count m : ℕ} (s : List ℕ)
      (r : Reading (strings_of c) base all (lines s) rotations count m) where
    abbrev Left : List (List ℕ) → Type 0
    Left ls = Reading (strings_of c) base all ls rotations count m

    pub text_end : length s ≡ 0 → Left []
    text_end h = subst Left (lines_none s h) r

    module _ (h : 0 < length s) where
      abbrev line : List ℕ
      line = take (line_length s) s

      before_line : Left (line ∷ lines (drop (line_length s) s))
      before_line = subst Left (lines_cons s h) r

      pub line_full : count ≡ most_rotations → plan_from c base all ≡ Err PlanInput
      line_full e = plan_bad c base all PlanInput (reading_full before_line e)

      same : rotation_line (strings_of c) line ≡ rotation_line g line
      same = sym (rotation_same g (strings_of c) q line)

      pub line_small : (n : NativeNumber) → rotation_line g line ≡ Ok n → n.0 < natives
      line_small n y = (rotation_good g line n y).0

      module _ (k : count ≡ most_rotations → ⊥) where
        less : count < most_rotations
        less = omega (arith, r.room)

        pub line_refused : (x : Refusal) → rotation_line g line ≡ Err x → plan_from c base all ≡ Err x
        line_refused x y = plan_bad c base all x (reading_bad before_line less x (same ∙ y))

        pub line_taken : (n : NativeNumber) → rotation_line g line ≡ Ok n
            → Reading (strings_of c) base all (lines (drop (line_length s) s)) (set rotations count n) (count + 1) (rotate qubits m (g n.0))
        line_taken n y = rw (q n.0 (line_small n y)) (reading_more before_line less n (same ∙ y) (native_string_law c n.0))
