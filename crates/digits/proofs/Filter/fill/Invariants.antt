-- `Filter::fill` meets its contract: after the strings below z, the neighbours of those without an entry are marked. Assumes nothing.
use Rattle.pauli_string.specs.Strings.{qubits}
use Rattle.digits.specs.Filter.{Filled}
use Rattle.digits.proofs.Filter.fill.Given as goal

abbrev pub invariant-loop-z : goal.invariant-loop-z
invariant-loop-z l = Filled qubits l.r.strings l.r.count l.self.digits l.table.bytes.now l.z
