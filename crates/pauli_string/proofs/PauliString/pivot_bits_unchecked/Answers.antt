-- `pauli_string::PauliString::pivot_bits_unchecked` meets its contract: the mask keeps the digits of the pivot. Assumes nothing.
use lib.Dec.{lit<}
use Rattle.pauli_string.proofs.Pivot.{pivot_mask}
use Rattle.pauli_string.proofs.PauliString.pivot_bits_unchecked.Goals as goal

pub returns : goal.returns
returns c = pivot_mask 12 c.args.self.0 (lit< tt)
