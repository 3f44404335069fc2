-- Demand 3, for the table that a build leaves and for every table that the check accepts: what it asks. The theorems are `demand_3` and, for the
-- best letter on the pivot, `pivot_free_demand_3`, in `proofs/Demand3.antt`. Assumes nothing.
use Rattle.bicycle_common.specs.declared.Refusal.{Refusal}
use Rattle.std.specs.Prelude.{◌≡◌, true, List, ℕ, ◌*◌, ◌≤◌, length, Result, Ok}
use Rattle.std.proofs.lemmas.List.Edits.{sets}
use Rattle.bicycle_common.specs.declared.Pauli.{Pauli}
use Rattle.bicycle_common.specs.declared.Pauli.TheVariants.{I}
use Rattle.pauli_string.specs.Strings.{qubits}
use Rattle.measurement.specs.Matrices.{side}
use Rattle.measurement.specs.Measures.{pair_string}
use Rattle.shortest.specs.Graphs.{Has}
use Rattle.table.specs.Bytes.{entry}
use Rattle.table.specs.Entries.{depth}
use Rattle.table.specs.Plans.{Gives}
use Rattle.lookup.specs.declared.MeasurementImpl.{MeasurementImpl}
use Rattle.lookup.specs.Walks.{candidate, winner}
use Rattle.lookup.specs.Answers.{two_bytes, Leaves, exact, pivot_free}
use Rattle.lookup.specs.Truth.{Implements}

-- The answer r, and the buffer that was `before` and is `after` now, hold a shortest plan for p: a kept native and kept natives with pivot
-- support which, pivots blanked, applied in order to the base, give p; and no shorter sequence of natives with pivot support, kept or not,
-- gives p from any native.
pub record ShortestPlan (mx my : List ℕ) (p : ℕ) (before : List ℕ) (r : Result MeasurementImpl Refusal) (after : List ℕ) : Type 0 where
  pub plan : MeasurementImpl
  pub rotations : List ℕ
  pub answer : r ≡ Ok plan
  pub buffer : after ≡ sets before 0 (two_bytes rotations)
  pub implements : Implements qubits (pair_string side mx my) plan rotations p
  pub no_shorter : (b : ℕ) (ns : List ℕ) → Gives qubits (pair_string side mx my) b ns p → length rotations ≤ length ns

-- what demand 3 asks of a table and a nonzero string
pub record Demand3 (mx my t : List ℕ) (p : ℕ) : Type 0 where
  -- with an entry, and room in the buffer: whatever the exact lookup answers and leaves is a shortest plan
  pub entry_is_planned : Has (entry t) p → (before : List ℕ) → 2 * depth (entry t p) ≤ length before → (r : Result MeasurementImpl Refusal) (after : List ℕ)
      → Leaves (exact qubits side t mx my p (length before)) before r after → ShortestPlan mx my p before r after
  -- without an entry: no sequence gives it
  pub without_entry : entry t p ≡ 0 → (b : ℕ) (ns : List ℕ) → Gives qubits (pair_string side mx my) b ns p → ⊥

-- ---- the same without the pivot

-- the candidate with the fewest rotations, the first of X, Z, Y where several have them
abbrev pub chosen : List ℕ → ℕ → ℕ
chosen t p = winner true qubits (entry t) p

-- a shortest plan for the chosen candidate, and no sequence for p with any letter on the pivot is shorter
pub record BestPlan (mx my t : List ℕ) (p : ℕ) (before : List ℕ) (r : Result MeasurementImpl Refusal) (after : List ℕ) : Type 0 where
  pub shortest : ShortestPlan mx my (chosen t p) before r after
  pub no_letter_shorter : (l : Pauli) → (l ≡ I → ⊥) → (b : ℕ) (ns : List ℕ) → Gives qubits (pair_string side mx my) b ns (candidate qubits p l)
      → length shortest.rotations ≤ length ns

pub record PivotFree3 (mx my t : List ℕ) (p : ℕ) : Type 0 where
  -- if the chosen candidate has an entry, and the buffer has room
  pub entry_is_planned : Has (entry t) (chosen t p) → (before : List ℕ) → 2 * depth (entry t (chosen t p)) ≤ length before → (r : Result MeasurementImpl Refusal)
      (after : List ℕ) → Leaves (pivot_free qubits side t mx my p (length before)) before r after → BestPlan mx my t p before r after
  -- if it has none, no sequence gives p with any letter on the pivot
  pub without_entry : entry t (chosen t p) ≡ 0 → (l : Pauli) → (l ≡ I → ⊥) → (b : ℕ) (ns : List ℕ) → Gives qubits (pair_string side mx my) b ns (candidate qubits p l) → ⊥
