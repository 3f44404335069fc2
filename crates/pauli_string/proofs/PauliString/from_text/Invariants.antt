-- `pauli_string::PauliString::from_text` meets its contract: the loop reads the text from its front into the array from its end, and any byte
-- that stands for no letter ends it. Assumes nothing.
use Prim.Native.Nat.{◌-◌}
use Rattle.pauli_string.proofs.Text.{Reading}
use Rattle.pauli_string.proofs.PauliString.from_text.Given as goal

abbrev pub invariant-loop-i : goal.invariant-loop-i
invariant-loop-i l = Reading 12 l.text l.letters l.i

abbrev pub decreases-loop-i : goal.decreases-loop-i
decreases-loop-i l = 12 - l.i
