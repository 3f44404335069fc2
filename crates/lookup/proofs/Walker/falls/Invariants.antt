-- `lookup::Walker::falls` meets its contract: the string and the value are those of the walk's place, and a place that fails a test does not stand.
-- Assumes nothing.
use Rattle.pauli_string.specs.Strings.{qubits}
use Rattle.lookup.specs.Held.{strings, values}
use Rattle.lookup.proofs.Steps.{Place}
use Rattle.lookup.proofs.Walker.falls.Given as goal

abbrev pub invariant-loop-depth : goal.invariant-loop-depth
invariant-loop-depth l = Place qubits (strings l.self) (values l.self) l.fn.p.number l.d l.depth l.at.number l.v
