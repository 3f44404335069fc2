-- `table_check::neighbours` meets its contract: each store leaves those before it as they are. Assumes nothing.
use Rattle.pauli_string.specs.Strings.{qubits}
use Rattle.table_check.specs.Tests.{Neighbours}
use Rattle.table_check.proofs.neighbours.Given as goal

abbrev pub invariant-loop-i : goal.invariant-loop-i
invariant-loop-i l = Neighbours qubits l.p l.rotations.strings l.i l.xs
