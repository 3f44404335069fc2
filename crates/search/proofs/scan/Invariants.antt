-- `search::scan` meets its contract: before each place the state is the model's, in range and covered by the filter; the count stays below
-- the number of strings, so the scan ends. Assumes nothing.
use Prim.Native.Nat.{◌^◌, ◌-◌}
use Rattle.pauli_string.specs.Strings.{qubits}
use Rattle.discovery.specs.Short.{Notes}
use Rattle.discovery.specs.Builds.{held, Lent}
use Rattle.discovery.proofs.Short.{is_short}
use Rattle.search.proofs.Scans.{Scanned}
use Rattle.search.proofs.scan.Given as goal

abbrev pub invariant-loop-i : goal.invariant-loop-i
invariant-loop-i g l =
    let short = is_short g.row.SHORT in
    record {
      lent : Lent l.initial.b l.b;
      scanned : Scanned qubits l.r.strings l.r.natives l.r.count l.from (held short l.initial.b) l.filter.digits (held short l.b) l.i;
      notes : Notes short qubits l.b.queue.now l.b.table.now;
    }

abbrev pub decreases-loop-i : goal.decreases-loop-i
decreases-loop-i g l = 4 ^ qubits - l.i
