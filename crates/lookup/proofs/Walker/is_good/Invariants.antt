-- `lookup::Walker::is_good` meets its contract: the string and the value are those of the walk's place, and every place before it stands. Assumes
-- nothing.
use Prim.Native.Nat.{◌-◌}
use Rattle.pauli_string.specs.Strings.{qubits}
use Rattle.lookup.specs.Held.{strings, values}
use Rattle.lookup.proofs.Steps.{Place, Stood}
use Rattle.lookup.proofs.Walker.is_good.Given as goal

abbrev pub invariant-loop-depth : goal.invariant-loop-depth
invariant-loop-depth l = Place qubits (strings l.self) (values l.self) l.fn.p.number l.d l.depth l.at.number l.v × Stood qubits (strings l.self) (values l.self) l.fn.p.number (l.d - l.depth)
