-- `rotations::pack_unchecked` meets its contract: before native n, the rotations among those below it are packed. Assumes nothing.
use Rattle.pauli_string.specs.Strings.{qubits}
use Rattle.natives.specs.Arrays.{at}
use Rattle.rotations.specs.Packed.{Packed}
use Rattle.rotations.proofs.pack_unchecked.Given as goal

abbrev pub invariant-loop-n : goal.invariant-loop-n
invariant-loop-n l = Packed qubits (at l.natives.strings) l.r.strings l.r.natives l.r.count l.n
