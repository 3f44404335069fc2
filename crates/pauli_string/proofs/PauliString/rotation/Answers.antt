-- `pauli_string::PauliString::rotation` meets its contract: the shifts leave room for the pivot. Assumes nothing.
use mathlib.Core.Path.{ap}
use lib.Dec.{lit≤}
use Rattle.pauli_string.specs.Answers.{string}
use Rattle.pauli_string.proofs.Rotation.{rotation_word}
use Rattle.pauli_string.proofs.Range.{is_string_law}
use Rattle.pauli_string.proofs.PauliString.rotation.Goals as goal

pub returns-then-bits-lt-ROTATIONS : goal.returns-then-bits-lt-ROTATIONS
returns-then-bits-lt-ROTATIONS c = simp (is_string_law 11 _ c.if-bits-lt-ROTATIONS.true) (ap string (rotation_word 32 11 c.args.bits (lit≤ tt) c.if-bits-lt-ROTATIONS.true))
