-- `Filter::mark` meets its contract: each rotation sets one bucket, and none is cleared. Assumes nothing.
use Rattle.pauli_string.specs.Strings.{qubits}
use Rattle.digits.specs.Filter.{Rises, Marked}
use Rattle.digits.proofs.Filter.mark.Given as goal

abbrev pub invariant-loop-string : goal.invariant-loop-string
invariant-loop-string l = Rises l.initial.self.digits l.self.digits × Marked qubits l.r.strings l.self.digits l.z l.string-index
