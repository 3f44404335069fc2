-- `pauli_string::PauliString::has_pivot_support_unchecked` meets its contract: the pivot is blank where its digits are zero. Assumes nothing.
use mathlib.Core.Bool.{not}
use mathlib.Core.Path.{◌∙◌, ap}
use Prim.Native.Nat.{ℕ}
use lib.Dec.{eqb}
use Rattle.pauli_string.specs.Strings.{has_pivot}
use Rattle.pauli_string.proofs.Pivot.{pivot_zero}
use Rattle.pauli_string.proofs.PauliString.has_pivot_support_unchecked.Goals as goal

pub returns : goal.returns
unfolding has_pivot
returns c = ap (λ (n : ℕ). not (eqb n 0)) c.pivot_bits_unchecked.ensures ∙ ap not (pivot_zero 12 c.args.self.0)
