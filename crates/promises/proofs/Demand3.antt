-- Demand 3, proved: the theorems are `demand_3` and, for the best letter on the pivot, `pivot_free_demand_3`; each is a case of laws over any
-- number of qubits. They stand here and not beside their definitions, so that a wrong definition reads well and is refused at a theorem.
-- Assumes nothing.
use Rattle.bicycle_common.specs.declared.Refusal.{Refusal}
use Rattle.std.specs.Prelude.{◌≡◌, refl, Bool, true, false, List, ℕ, ◌*◌, ◌^◌, ◌≤◌, ◌<◌, length, Result}
use Rattle.std.proofs.Common.{ap, subst, ◌∙◌, arith, lit<}
use Rattle.std.proofs.lemmas.List.Edits.{sets}
use Rattle.bicycle_common.specs.declared.Pauli.{Pauli}
use Rattle.bicycle_common.specs.declared.Pauli.TheVariants.{I, X, Z, Y}
use Rattle.bicycle_common.proofs.Ranges.{length_from}
use Rattle.pauli_string.specs.Strings.{qubits, has_pivot}
use Rattle.measurement.specs.Matrices.{side}
use Rattle.measurement.specs.Measures.{pair_string}
use Rattle.shortest.specs.Graphs.{Has}
use Rattle.table.specs.Bytes.{entry}
use Rattle.table.specs.Entries.{depth, named}
use Rattle.table.specs.Plans.{Nonzero, Gives}
use Rattle.table.proofs.Plans.{sequence_reaches}
use Rattle.lookup.specs.declared.MeasurementImpl.{MeasurementImpl}
use Rattle.lookup.specs.Walks.{bottom, rotation_at, rotations, candidate, winner}
use Rattle.lookup.specs.Answers.{two_bytes, Lookup, Leaves, impl_by, planned, looked_up, pivot_free}
use Rattle.lookup.specs.Truth.{Truly}
use Rattle.lookup.proofs.Walks.{best_least_first, best_least_second, best_least_third}
use Rattle.lookup.proofs.Truth.{looked_up_true}
use Rattle.lookup.proofs.Ruled.{candidate_nonzero, Askable, ask_sought, winner_nonzero, rule_planned}
use Rattle.promises.specs.Checks.{BuiltOrAccepted, Ruled, small, ruled_table}
use Rattle.promises.specs.Demand3.{ShortestPlan, Demand3, chosen, BestPlan, PivotFree3}

-- a lookup that answers the plan of the walk from p, truly, answers a shortest plan where no sequence is shorter than the depth of p
abbrev planned_shortest : (mx my t : List ℕ) (p : ℕ) (before : List ℕ) (r : Result MeasurementImpl Refusal) (after : List ℕ) (o : Lookup) → Leaves o before r after
    → o ≡ planned qubits (pair_string side mx my) (entry t) p → Truly qubits (pair_string side mx my) p o
    → ((b : ℕ) (ns : List ℕ) → Gives qubits (pair_string side mx my) b ns p → depth (entry t p) ≤ length ns) → ShortestPlan mx my p before r after
planned_shortest mx my t p before r after o w z true_plan least =
    let f = pair_string side mx my in
    let e = entry t in
    let m : MeasurementImpl = impl_by (bottom qubits f e p) (named (e (bottom qubits f e p))) (depth (e p)) p in
    record {
      plan = m;
      rotations = rotations qubits f e p;
      answer = w.answer ∙ ap (λ (x : Lookup). x.answer) z;
      buffer = w.buffer ∙ ap (λ (x : Lookup). sets before 0 (two_bytes x.written)) z;
      implements = subst (Truly qubits f p) z true_plan;
      no_shorter = λ b ns g. omega (arith, least b ns g, length_from (rotation_at qubits f e p) 0 (depth (e p)));
    }

module _ (mx my t : List ℕ) (ok : BuiltOrAccepted mx my t) where
  abbrev f : ℕ → ℕ
  f = pair_string side mx my

  ready : Ruled mx my t
  ready = ruled_table mx my t ok

  reaches : (b : ℕ) (ns : List ℕ) (p : ℕ) → Gives qubits f b ns p → (p ≡ 0 → ⊥) → Has (entry t) p × (depth (entry t p) ≤ length ns)
  reaches = sequence_reaches qubits f (small mx my) (entry t) ready.ruled

  -- either lookup
  abbrev shortest : (any : Bool) (p : ℕ) → Askable any qubits p → Has (entry t) (winner any qubits (entry t) p) → (before : List ℕ)
      → 2 * depth (entry t (winner any qubits (entry t) p)) ≤ length before → (r : Result MeasurementImpl Refusal) (after : List ℕ)
      → Leaves (looked_up any qubits side t mx my p (length before)) before r after → ShortestPlan mx my (winner any qubits (entry t) p) before r after
  shortest any p a h before room r after w =
      let e = entry t in
      planned_shortest mx my t (winner any qubits e p) before r after (looked_up any qubits side t mx my p (length before)) w
      (ask_sought qubits p any side t mx my (length before) a ready.is_given ∙ rule_planned qubits p (lit< tt) e f (small mx my) ready.ruled any (length before) a h room)
      (looked_up_true any qubits side t mx my p (length before))
      (λ b ns g. (reaches b ns (winner any qubits e p) g (winner_nonzero qubits p (lit< tt) e any a).some).1)

  pub demand_3 : (p : ℕ) → Nonzero qubits p → Demand3 mx my t p
  demand_3 p i = record {
    entry_is_planned = shortest false p i;
    without_entry = λ z b ns g. (reaches b ns p g i.some).0 z;
  }

  module _ (p : ℕ) (below : p < 4 ^ qubits) (free : has_pivot qubits p ≡ false) where
    nonzero : (l : Pauli) → (l ≡ I → ⊥) → Nonzero qubits (candidate qubits p l)
    nonzero l i = candidate_nonzero qubits p l (lit< tt) below i

    -- the chosen candidate has an entry if another has, and no more rotations
    no_more : (l : Pauli) → (l ≡ I → ⊥) → Has (entry t) (candidate qubits p l)
        → Has (entry t) (chosen t p) × (depth (entry t (chosen t p)) ≤ depth (entry t (candidate qubits p l)))
    no_more I i h = absurd (i refl)
    no_more X i h = best_least_first (entry t) (candidate qubits p X) (candidate qubits p Z) (candidate qubits p Y) h
    no_more Z i h = best_least_second (entry t) (candidate qubits p X) (candidate qubits p Z) (candidate qubits p Y) h
    no_more Y i h = best_least_third (entry t) (candidate qubits p X) (candidate qubits p Z) (candidate qubits p Y) h

    best_plan : Has (entry t) (chosen t p) → (before : List ℕ) → 2 * depth (entry t (chosen t p)) ≤ length before → (r : Result MeasurementImpl Refusal) (after : List ℕ)
        → Leaves (pivot_free qubits side t mx my p (length before)) before r after → BestPlan mx my t p before r after
    best_plan h before room r after w = record {
      shortest = shortest true p (below, free) h before room r after w;
      no_letter_shorter = λ l i b ns g.
          let k = reaches b ns (candidate qubits p l) g (nonzero l i).some in
          omega (arith, length_from (rotation_at qubits f (entry t) (chosen t p)) 0 (depth (entry t (chosen t p))), (no_more l i k.0).1, k.1);
    }

    pub pivot_free_demand_3 : PivotFree3 mx my t p
    pivot_free_demand_3 = record {
      entry_is_planned = best_plan;
      without_entry = λ z l i b ns g. (no_more l i (reaches b ns (candidate qubits p l) g (nonzero l i).some).0).0 z;
    }
