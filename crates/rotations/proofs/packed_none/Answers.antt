-- `rotations::packed_none` meets its contract: of no native nothing is packed, whatever the strings. Assumes nothing.
use Rattle.pauli_string.specs.Strings.{qubits}
use Rattle.rotations.proofs.Packed.{packed_fresh}
use Rattle.rotations.proofs.packed_none.Goals as goal

pub invariant_of-result : goal.invariant_of-result
invariant_of-result c = record { blanked = (packed_fresh qubits (λ n. n)).rotations }

pub returns : goal.returns
returns c = packed_fresh qubits
