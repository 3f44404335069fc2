-- `lookup::Walker::falls` meets its contract: the string and the value are those of the walk's place, and a place that fails a test does not
-- stand. Assumes nothing.
use Rattle.std.proofs.Common.{sym, ap}
use Rattle.pauli_string.specs.Strings.{qubits}
use Rattle.table.specs.Entries.{depth}
use Rattle.lookup.specs.Held.{strings}
use Rattle.lookup.proofs.Steps.{place_first, place_unsound, place_next}
use Rattle.lookup.proofs.Walks.{stands_other, stands_invalid}
use Rattle.lookup.proofs.Walker.falls.Goals as goal
use Rattle.lookup.proofs.Walker.falls.Goals.{then-v-depth-via-then-v-depth, then-v-depth-via-else-v-depth+then-not-names}

pub loop-depth-init : goal.loop-depth-init
loop-depth-init c = place_first c.entry_unchecked-v.ensures (ap depth c.entry_unchecked-v.ensures)

pub returns-then-v-depth : goal.returns-then-v-depth
returns-then-v-depth c =
    let a = c.loop-depth in
    let f = strings c.args.self in
    λ _. place_unsound a.invariant c.loop-depth-test.true (elim c.then-v-depth.branch [
      | then-v-depth-via-then-v-depth w ↦ stands_other qubits f a.v _ a.at.number w.if-v-depth.true
      | then-v-depth-via-else-v-depth+then-not-names w ↦ stands_invalid qubits f a.v _ a.at.number (simp (sym w.if-not-names.ensures))
    ])

pub loop-depth-preserved : goal.loop-depth-preserved
loop-depth-preserved c =
    place_next c.loop-depth.invariant c.loop-depth-test.true c.next-at.ensures c.entry_unchecked-v-in-loop-depth.ensures
