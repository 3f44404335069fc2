-- What the lookups answer, and the natives that they write: the lowest number of 1, 3, 4, 5 (6 without the pivot), 7, 8, 9 that applies, or
-- the plan. Assumes nothing.
use Rattle.std.specs.Prelude.{Result, Ok, Err, Bool, true, false, cond, List, [], ◌∷◌, ◌≡◌, ℕ, ◌*◌, ◌/◌, ◌%◌, eqb, ltb}
use Rattle.std.proofs.lemmas.List.Edits.{sets}
use Rattle.bicycle_common.specs.declared.Refusal.{Refusal}
use Rattle.bicycle_common.specs.declared.Refusal.TheVariants.{StringRange, Identity, PivotSet, NoEntry, BadEntry, Room}
use Rattle.bicycle_common.specs.Refusals.{Told, told}
use Rattle.pauli_string.specs.Strings.{is_string, has_pivot}
use Rattle.measurement.specs.Measures.{pair_string}
use Rattle.table.specs.Bytes.{entry}
use Rattle.table.specs.Entries.{depth, named}
use Rattle.table.specs.Answers.{given}
use Rattle.lookup.specs.declared.MeasurementImpl.{MeasurementImpl}
use Rattle.lookup.specs.Walks.{bottom, rotations, missing, judged, winner}

-- the string measured, the base's native number and its string, the count of rotations
abbrev pub told_lookup : Result MeasurementImpl Refusal → Told
told_lookup = told 4 (λ (m : MeasurementImpl). m.measures.0 ∷ m.base.native.0 ∷ m.base.measures.0 ∷ m.rotations ∷ [])

-- two bytes for each number, low first
unfoldable pub two_bytes : List ℕ → List ℕ
two_bytes [] = []
two_bytes (n ∷ ns) = n % 256 ∷ n / 256 ∷ two_bytes ns

-- what is answered, and the natives of the rotations that are written
pub record Lookup : Type 0 where
  pub answer : Result MeasurementImpl Refusal
  pub written : List ℕ

-- a refusal writes nothing
abbrev pub refusing : Refusal → Lookup
refusing r = record { answer = Err r; written = [] }

-- the call answers r and leaves in the buffer what it writes, in front; the bytes behind are as they were
pub record Leaves (o : Lookup) (before : List ℕ) (r : Result MeasurementImpl Refusal) (after : List ℕ) : Type 0 where
  pub answer : r ≡ o.answer
  pub buffer : after ≡ sets before 0 (two_bytes o.written)

-- the plan for p: native n, which measures the string b, and d rotations
abbrev pub impl_by : ℕ → ℕ → ℕ → ℕ → MeasurementImpl
impl_by b n d p = record { base = record { native = record { 0 = n }; measures = record { 0 = b } }; rotations = d; measures = record { 0 = p } }

-- the same as an answer, beside the rotations' natives
abbrev pub plan_by : ℕ → ℕ → ℕ → ℕ → List ℕ → Lookup
plan_by b n d p ns = record { answer = Ok (impl_by b n d p); written = ns }

module _ (q : ℕ) (f e : ℕ → ℕ) where
  -- the plan that the walk from p tells
  abbrev pub planned : ℕ → Lookup
  planned p = plan_by (bottom q f e p) (named (e (bottom q f e p))) (depth (e p)) p (rotations q f e p)

  -- 9 where the buffer has less than two bytes for each rotation
  abbrev pub found : ℕ → ℕ → Lookup
  found p room = cond (ltb room (2 * depth (e p))) (refusing (Room (2 * depth (e p)))) (planned p)

  -- 7 where there is no entry, 8 where a walk is bad; `any`: with any letter on the pivot
  abbrev pub sought : Bool → ℕ → ℕ → Lookup
  sought any p room = cond (missing any q e p) (refusing NoEntry) (cond (judged any q f e p) (found (winner any q e p) room) (refusing BadEntry))

-- ---- the calls

-- what is answered where a test is passed
abbrev pub where_passed : Result (Unit {0}) Refusal → Lookup → Lookup
where_passed (Ok _) o = o
where_passed (Err r) o = refusing r

-- 5 for the exact lookup of 0, 6 for the pivot-free lookup of a string with a letter on the pivot
abbrev pub allowed : Bool → ℕ → ℕ → Result (Unit {0}) Refusal
allowed any q p = cond any (cond (has_pivot q p) (Err PivotSet) (Ok tt)) (cond (eqb p 0) (Err Identity) (Ok tt))

-- the lookup of p in the table t of a pair, with a buffer of length room
unfoldable pub looked_up : Bool → ℕ → ℕ → List ℕ → List ℕ → List ℕ → ℕ → ℕ → Lookup
looked_up any q s t mx my p room =
    where_passed (given q s t mx my)
    (cond (is_string q p)
    (where_passed (allowed any q p) (sought q (pair_string s mx my) (entry t) any p room))
    (refusing StringRange))

-- the exact lookup
abbrev pub exact : ℕ → ℕ → List ℕ → List ℕ → List ℕ → ℕ → ℕ → Lookup
exact = looked_up false

-- the pivot-free lookup
abbrev pub pivot_free : ℕ → ℕ → List ℕ → List ℕ → List ℕ → ℕ → ℕ → Lookup
pivot_free = looked_up true
