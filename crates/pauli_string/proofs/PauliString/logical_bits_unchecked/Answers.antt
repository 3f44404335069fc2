-- `pauli_string::PauliString::logical_bits_unchecked` meets its contract: the shifts leave the digits above the pivot. Assumes nothing.
use native.Mathlib.Omega.{arith}
use Rattle.pauli_string.proofs.Rotation.{logical_word}
use Rattle.pauli_string.proofs.PauliString.logical_bits_unchecked.Goals as goal

pub returns : goal.returns
returns c = logical_word 32 11 c.args.self.0 (omega arith)
