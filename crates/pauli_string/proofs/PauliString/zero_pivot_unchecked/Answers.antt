-- `pauli_string::PauliString::zero_pivot_unchecked` meets its contract: the mask takes away the digits of the pivot. Assumes nothing.
use native.Mathlib.Omega.{arith}
use Rattle.pauli_string.proofs.Pivot.{blank_mask}
use Rattle.pauli_string.proofs.PauliString.zero_pivot_unchecked.Goals as goal

pub returns : goal.returns
returns c = blank_mask 19 11 c.args.self.0 (omega arith)
