-- `table_check::Checker::ceiling` meets its contract: the end sinks native by native. Assumes nothing.
use Prim.Native.Nat.{◌^◌}
use Rattle.pauli_string.specs.Strings.{qubits}
use Rattle.table_check.specs.Checkers.{strings_of, values_of}
use Rattle.table_check.specs.Tests.{Least, By, Wrong}
use Rattle.table_check.proofs.Checker.ceiling.Given as goal

abbrev pub invariant-loop-n : goal.invariant-loop-n
invariant-loop-n l = Least (By (Wrong (strings_of l.self) (values_of l.self)) l.n) (4 ^ qubits) l.end
