-- `lookup::Walker::write_rotations` meets its contract: with some rotations left, the string is that of the walk's place, and those behind them are
-- written. Assumes nothing.
use Rattle.pauli_string.specs.Strings.{qubits}
use Rattle.lookup.specs.Held.{strings, values}
use Rattle.lookup.proofs.Steps.{Writing}
use Rattle.lookup.proofs.Walker.write_rotations.Given as goal

abbrev pub invariant-loop-left : goal.invariant-loop-left
invariant-loop-left l = Writing qubits (strings l.self) (values l.self) l.fn.p.number l.d l.initial.out l.left l.at.number l.out
