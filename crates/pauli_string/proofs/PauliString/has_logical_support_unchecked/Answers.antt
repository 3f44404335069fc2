-- `pauli_string::PauliString::has_logical_support_unchecked` meets its contract: the logical digits are zero where the blanked string is. Assumes nothing.
use mathlib.Core.Bool.{not}
use mathlib.Core.Path.{◌∙◌, ap}
use Prim.Native.Nat.{ℕ}
use lib.Dec.{eqb}
use Rattle.pauli_string.specs.Strings.{has_logical}
use Rattle.pauli_string.proofs.Rotation.{logical_zero}
use Rattle.pauli_string.proofs.PauliString.has_logical_support_unchecked.Goals as goal

pub returns : goal.returns
unfolding has_logical
returns c = ap (λ (n : ℕ). not (eqb n 0)) c.logical_bits_unchecked.ensures ∙ ap not (logical_zero 11 c.args.self.0)
