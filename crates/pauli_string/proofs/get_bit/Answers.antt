-- `pauli_string::get_bit` meets its contract: a shift and a mask read one digit. Assumes nothing.
use Rattle.pauli_string.proofs.Places.{get_one}
use Rattle.pauli_string.proofs.get_bit.Goals as goal

pub returns : goal.returns
returns c = get_one c.args.n c.args.index
