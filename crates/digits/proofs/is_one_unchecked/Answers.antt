-- `digits::is_one_unchecked` meets its contract: the digit is read out of its byte. Assumes nothing.
use mathlib.Core.Path.{refl}
use Rattle.pauli_string.specs.Strings.{bit}
use Rattle.digits.proofs.is_one_unchecked.Goals as goal

pub returns : goal.returns
unfolding bit
returns c = refl
