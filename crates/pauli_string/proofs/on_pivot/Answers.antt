-- `pauli_string::on_pivot` meets its contract: each constant is the identity with its letter set on qubit 0. Assumes nothing.
use mathlib.Core.Path.{sym, ap}
use Rattle.pauli_string.specs.Strings.{bit, set_bit, set_letter}
use Rattle.pauli_string.proofs.on_pivot.Goals as goal

pub returns-in-I : goal.returns-in-I
unfolding set_letter set_bit bit
returns-in-I c = sym (ap (set_letter 12 0 0) c.in-I.is)

pub returns-in-X : goal.returns-in-X
unfolding set_letter set_bit bit
returns-in-X c = sym (ap (set_letter 12 0 0) c.in-X.is)

pub returns-in-Z : goal.returns-in-Z
unfolding set_letter set_bit bit
returns-in-Z c = sym (ap (set_letter 12 0 0) c.in-Z.is)

pub returns-in-Y : goal.returns-in-Y
unfolding set_letter set_bit bit
returns-in-Y c = sym (ap (set_letter 12 0 0) c.in-Y.is)
