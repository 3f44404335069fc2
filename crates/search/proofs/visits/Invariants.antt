-- `search::visits` meets its contract: after j strings the state is the model's; what each may ask stays. Assumes nothing.
use Rattle.bicycle_common.specs.Ranges.{in_turn}
use Rattle.pauli_string.specs.Strings.{qubits}
use Rattle.discovery.specs.Builds.{held, Lent, Comes}
use Rattle.discovery.proofs.Short.{is_short}
use Rattle.search.specs.Turns.{listed_tried}
use Rattle.search.proofs.visits.Given as goal

abbrev pub invariant-loop-j : goal.invariant-loop-j
invariant-loop-j g l =
    let short = is_short g.row.SHORT in
    record {
      lent : Lent l.initial.b l.b;
      comes : Comes short qubits l.b (in_turn l.j (listed_tried l.moved.strings l.moved.natives l.depth) (held short l.initial.b));
    }
