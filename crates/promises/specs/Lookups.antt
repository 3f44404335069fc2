-- What else the lookups promise: a true plan on any table, each refusal exactly where document 01 says, no refusal 8 on a table that was
-- built or accepted, and there string 1 for the pivot-free lookup of 0. Assumes nothing.
use Rattle.bicycle_common.specs.declared.Refusal.{Refusal}
use Rattle.std.specs.Prelude.{◌≡◌, Bool, false, ◌&&◌, List, [], ℕ, ◌*◌, ◌^◌, ◌≤◌, ◌<◌, length, Result, Ok}
use Rattle.std.proofs.Math.Path.{refl, ap}
use Rattle.std.proofs.Common.{sym, subst, ◌∙◌, arith, lit<}
use Rattle.std.proofs.Math.Bool.{true}
use Rattle.std.proofs.Math.Decide.{ℕ_discrete, dec_lt}
use Rattle.std.proofs.lemmas.List.Edits.{sets}
use Rattle.bicycle_common.specs.declared.Pauli.TheVariants.{X, Z, Y}
use Rattle.bicycle_common.specs.declared.Refusal.TheVariants.{TableLength, Matrix, StringRange, Identity, PivotSet, NoEntry, BadEntry, Room}
use Rattle.bicycle_common.specs.Refusals.{Told, refused}
use Rattle.pauli_string.specs.Strings.{qubits, bit, letter_at, set_bit, set_letter, has_pivot}
use Rattle.pauli_string.proofs.Range.{is_string_law, no_string}
use Rattle.measurement.specs.Matrices.{side, of_bytes, is_bytes}
use Rattle.measurement.specs.Measures.{pair_string}
use Rattle.measurement.proofs.Strings.{native_one}
use Rattle.natives.specs.Kept.{kept_for}
use Rattle.shortest.specs.Graphs.{Has}
use Rattle.table.specs.Bytes.{entry}
use Rattle.table.specs.Entries.{depth, Names, named}
use Rattle.table.specs.Answers.{is_table, given}
use Rattle.table.proofs.Rules.{kept_for_law}
use Rattle.lookup.specs.declared.MeasurementImpl.{MeasurementImpl}
use Rattle.lookup.specs.Walks.{candidate, better, best, missing, judged, winner}
use Rattle.lookup.specs.Answers.{told_lookup, two_bytes, Lookup, Leaves, plan_by, planned, sought, looked_up, exact, pivot_free}
use Rattle.lookup.specs.Truth.{Implements, AnswersTruly, Truly}
use Rattle.lookup.proofs.Walks.{better_native}
use Rattle.lookup.proofs.Answers.{found_short, found_fits, sought_none, sought_bad, sought_found, not_given, not_string, not_allowed, exact_not, free_not}
use Rattle.lookup.proofs.Truth.{looked_up_true}
use Rattle.lookup.proofs.Ruled.{Askable, ask_sought, rule_judged, rule_planned, planned_native}
use Rattle.promises.specs.Checks.{BuiltOrAccepted, Ruled, small, ruled_table}
use Rattle.promises.specs.Demand3.{chosen}

-- ---- on any table

-- m, with natives in front of the buffer, is a true plan for p: kept natives which, pivots blanked, applied in order to the base, give p
pub record TruePlan (mx my : List ℕ) (p : ℕ) (before : List ℕ) (m : MeasurementImpl) (after : List ℕ) : Type 0 where
  pub rotations : List ℕ
  pub implements : Implements qubits (pair_string side mx my) m rotations p
  pub buffer : after ≡ sets before 0 (two_bytes rotations)

module _ (mx my t : List ℕ) (p : ℕ) (before : List ℕ) (m : MeasurementImpl) (after : List ℕ) where
  true_plan : (x : ℕ) (o : Lookup) → Truly qubits (pair_string side mx my) x o → Leaves o before (Ok m) after → TruePlan mx my x before m after
  true_plan x o h w = record {
    rotations = o.written;
    implements = subst (AnswersTruly qubits (pair_string side mx my) x o.written) (sym w.answer) h;
    buffer = w.buffer;
  }

  pub exact_is_true : Leaves (exact qubits side t mx my p (length before)) before (Ok m) after → TruePlan mx my p before m after
  exact_is_true = true_plan p (exact qubits side t mx my p (length before)) (looked_up_true false qubits side t mx my p (length before))

  pub pivot_free_is_true : Leaves (pivot_free qubits side t mx my p (length before)) before (Ok m) after → TruePlan mx my (chosen t p) before m after
  pivot_free_is_true = true_plan (chosen t p) (pivot_free qubits side t mx my p (length before)) (looked_up_true true qubits side t mx my p (length before))

-- a lookup's contract permits one answer and one buffer
pub lookup_one : (o : Lookup) (before : List ℕ) (r r' : Result MeasurementImpl Refusal) (after after' : List ℕ) → Leaves o before r after → Leaves o before r' after'
    → (r ≡ r') × (after ≡ after')
lookup_one o before r r' after after' a b = (a.answer ∙ sym b.answer, a.buffer ∙ sym b.buffer)

-- ---- on a table that was built or accepted

-- two equal lookups tell the same number
numbered : {o w : Lookup} (n : ℕ) → o ≡ w → ((told_lookup w.answer).number ≡ n → ⊥) → (told_lookup o.answer).number ≡ n → ⊥
numbered n z other e = other (sym (ap (λ (x : Lookup). (told_lookup x.answer).number) z) ∙ e)

module _ (mx my t : List ℕ) (ok : BuiltOrAccepted mx my t) where
  abbrev f : ℕ → ℕ
  f = pair_string side mx my

  ready : Ruled mx my t
  ready = ruled_table mx my t ok

  -- 1 has the number kept for it, at depth 0
  one : (depth (entry t 1) ≡ 0) × Names (entry t 1) (kept_for f 1)
  one =
      (ready.ruled 1 (lit< tt)).native_string_law (λ z. omega arith) (kept_for f 1)
      (kept_for_law f 1 3 (lit< tt) (native_one side (lit< tt) (of_bytes side mx) (of_bytes side my)))

  chosen_one : chosen t 0 ≡ 1
  chosen_one =
      let has : Has (entry t) 1 = λ z. omega (arith, one.1) in
      let x : candidate qubits 0 X ≡ 1 = unfold set_letter in unfold set_bit in unfold bit in refl in
      ap (λ (a : ℕ). best (entry t) a (candidate qubits 0 Z) (candidate qubits 0 Y)) x
      ∙ ap (λ (a : ℕ). better (entry t) a (candidate qubits 0 Y)) (better_native (entry t) 1 (candidate qubits 0 Z) has one.0)
      ∙ better_native (entry t) 1 (candidate qubits 0 Y) has one.0

  -- base string 1, by the native kept for it, and no rotations
  pub pivot_free_of_0 : (room : ℕ) → pivot_free qubits side t mx my 0 room ≡ plan_by 1 (kept_for f 1) 0 1 []
  pivot_free_of_0 room =
      let e = entry t in
      let has : Has e (chosen t 0) = λ z. omega (arith, one.1, ap e chosen_one) in
      let d : depth (e (chosen t 0)) ≡ 0 = ap (λ (x : ℕ). depth (e x)) chosen_one ∙ one.0 in
      let n : named (e 1) ≡ kept_for f 1 = omega (arith, one.1) in
      let none : has_pivot qubits 0 ≡ false = unfold has_pivot in unfold letter_at in unfold bit in refl in
      ask_sought qubits 0 true side t mx my room (lit< tt, none) ready.is_given
      ∙ rule_planned qubits 0 (lit< tt) e f (small mx my) ready.ruled true room (lit< tt, none) has (omega (arith, d))
      ∙ ap (planned qubits f e) chosen_one
      ∙ planned_native qubits f e 1 one.0
      ∙ ap (λ (k : ℕ). plan_by 1 k 0 1 []) n

  -- neither lookup is refused with 8
  asked_never_8 : (any : Bool) (p room : ℕ) → Askable any qubits p → (told_lookup (looked_up any qubits side t mx my p room).answer).number ≡ 8 → ⊥
  asked_never_8 any p room a = by_missing (missing any qubits (entry t) p) refl
    where
      e : ℕ → ℕ
      e = entry t

      to_table : looked_up any qubits side t mx my p room ≡ sought qubits f e any p room
      to_table = ask_sought qubits p any side t mx my room a ready.is_given

      by_missing : (b : Bool) → missing any qubits e p ≡ b → (told_lookup (looked_up any qubits side t mx my p room).answer).number ≡ 8 → ⊥
      by_missing true z = numbered 8 (to_table ∙ sought_none qubits f e any p room z) (λ n. omega arith)
      by_missing false z =
          let w = winner any qubits e p in
          let s = to_table ∙ sought_found qubits f e any p room z (rule_judged qubits p (lit< tt) e f (small mx my) ready.ruled any a z) in
          elim (dec_lt room (2 * depth (e w))) [
            | yes l ↦ numbered 8 (s ∙ found_short qubits f e w room l) (λ n. omega arith)
            | no g ↦ numbered 8 (s ∙ found_fits qubits f e w room (omega arith)) (λ n. omega arith)
          ]

  pub never_8 : (any : Bool) (p room : ℕ) → (told_lookup (looked_up any qubits side t mx my p room).answer).number ≡ 8 → ⊥
  never_8 any p room = elim (dec_lt p (4 ^ qubits)) [
    | no g ↦ numbered 8 (not_string any qubits side t mx my p room ready.is_given (no_string qubits p (omega arith))) (λ n. omega arith)
    | yes below ↦ of_strings any below
  ]
    where
      by_pivot : p < 4 ^ qubits → (b : Bool) → has_pivot qubits p ≡ b → (told_lookup (pivot_free qubits side t mx my p room).answer).number ≡ 8 → ⊥
      by_pivot below true z = numbered 8 (not_allowed true qubits side t mx my p room ready.is_given (is_string_law qubits p below) PivotSet (free_not qubits p z)) (λ n. omega arith)
      by_pivot below false z = asked_never_8 true p room (below, z)

      of_strings : (any : Bool) → p < 4 ^ qubits → (told_lookup (looked_up any qubits side t mx my p room).answer).number ≡ 8 → ⊥
      of_strings true below = by_pivot below (has_pivot qubits p) refl
      of_strings false below = elim (ℕ_discrete p 0) [
        | yes z ↦ numbered 8 (not_allowed false qubits side t mx my p room ready.is_given (is_string_law qubits p below) Identity (exact_not qubits p z)) (λ n. omega arith)
        | no some ↦ asked_never_8 false p room (record { below = below; some = some })
      ]

-- ---- refusals

module _ (mx my t : List ℕ) (p room : ℕ) where
  abbrev strings : ℕ → ℕ
  strings = pair_string side mx my

  -- what a caller is told by the exact lookup, and by the pivot-free one
  abbrev exactly : Told
  exactly = told_lookup (exact qubits side t mx my p room).answer

  abbrev freely : Told
  freely = told_lookup (pivot_free qubits side t mx my p room).answer

  same_told : {o w : Lookup} → o ≡ w → told_lookup o.answer ≡ told_lookup w.answer
  same_told z = ap (λ (x : Lookup). told_lookup x.answer) z

  -- both: 1, then 3, then 4
  pub no_table_1 : is_table qubits t ≡ false → (exactly ≡ refused 4 TableLength) × (freely ≡ refused 4 TableLength)
  no_table_1 e = (same_told (not_given false qubits side t mx my p room TableLength (rw e)), same_told (not_given true qubits side t mx my p room TableLength (rw e)))

  pub no_matrix_3 : is_table qubits t ≡ true → (is_bytes side mx && is_bytes side my) ≡ false → (exactly ≡ refused 4 Matrix) × (freely ≡ refused 4 Matrix)
  no_matrix_3 e x = (same_told (not_given false qubits side t mx my p room Matrix (rw (e, x))), same_told (not_given true qubits side t mx my p room Matrix (rw (e, x))))

  module _ (g : given qubits side t mx my ≡ Ok tt) where
    pub no_string_4 : 4 ^ qubits ≤ p → (exactly ≡ refused 4 StringRange) × (freely ≡ refused 4 StringRange)
    no_string_4 h =
        (same_told (not_string false qubits side t mx my p room g (no_string qubits p h)), same_told (not_string true qubits side t mx my p room g (no_string qubits p h)))

    -- 5 for the exact lookup of the identity, 6 for a pivot-free one with a letter on the pivot
    pub identity_5 : p ≡ 0 → exactly ≡ refused 4 Identity
    identity_5 z = same_told (not_allowed false qubits side t mx my p room g (is_string_law qubits p (subst (λ (x : ℕ). x < 4 ^ qubits) (sym z) (lit< tt))) Identity (exact_not qubits p z))

    pub pivot_set_6 : p < 4 ^ qubits → has_pivot qubits p ≡ true → freely ≡ refused 4 PivotSet
    pivot_set_6 below b = same_told (not_allowed true qubits side t mx my p room g (is_string_law qubits p below) PivotSet (free_not qubits p b))

    -- both, with any letter on the pivot or none: 7 for value 0, at p or at all three; 8 for a bad walk, from p or from any candidate with an
    -- entry; 9 with the length needed
    module _ (any : Bool) (a : Askable any qubits p) where
      abbrev e : ℕ → ℕ
      e = entry t

      to_table : looked_up any qubits side t mx my p room ≡ sought qubits strings e any p room
      to_table = ask_sought qubits p any side t mx my room a g

      abbrev told : Told
      told = told_lookup (looked_up any qubits side t mx my p room).answer

      pub no_entry_7 : missing any qubits e p ≡ true → told ≡ refused 4 NoEntry
      no_entry_7 z = same_told (to_table ∙ sought_none qubits strings e any p room z)

      module _ (some : missing any qubits e p ≡ false) where
        pub bad_walk_8 : judged any qubits strings e p ≡ false → told ≡ refused 4 BadEntry
        bad_walk_8 b = same_told (to_table ∙ sought_bad qubits strings e any p room some b)

        module _ (b : judged any qubits strings e p ≡ true) where
          abbrev w : ℕ
          w = winner any qubits e p

          pub no_room_9 : room < 2 * depth (e w) → told ≡ refused 4 (Room (2 * depth (e w)))
          no_room_9 l = same_told (to_table ∙ sought_found qubits strings e any p room some b ∙ found_short qubits strings e w room l)

          pub else_planned : 2 * depth (e w) ≤ room → looked_up any qubits side t mx my p room ≡ planned qubits strings e w
          else_planned l = to_table ∙ sought_found qubits strings e any p room some b ∙ found_fits qubits strings e w room l
