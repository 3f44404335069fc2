-- `table_check::Checker::sink` meets its contract: the end sinks from one nonzero string after another. Assumes nothing.
use Rattle.pauli_string.specs.Strings.{qubits}
use Rattle.table_check.specs.Checkers.{strings_of, values_of}
use Rattle.table_check.specs.Tests.{Least, Blamed}
use Rattle.table_check.proofs.Checker.sink.Given as goal

abbrev pub invariant-loop-x : goal.invariant-loop-x
invariant-loop-x l = Least (Blamed qubits (strings_of l.self) (values_of l.self) l.self.top l.x) l.end l.r
