-- `pauli_string::PauliString::get_pauli_unchecked` meets its contract: the two digits say which letter it is. Assumes nothing.
use mathlib.Core.Bool.{true, false}
use mathlib.Core.Path.{sym}
use Rattle.pauli_string.proofs.Places.{letter_at_law}
use Rattle.pauli_string.proofs.PauliString.get_pauli_unchecked.Goals as goal

pub returns-in-true-true : goal.returns-in-true-true
returns-in-true-true c = sym (letter_at_law 12 _ _ true true (sym c.in-true-true.ensures) (sym c.in-true-true.ensures'))

pub returns-in-true-false : goal.returns-in-true-false
returns-in-true-false c = sym (letter_at_law 12 _ _ true false (sym c.in-true-false.ensures) (sym c.in-true-false.ensures'))

pub returns-in-false-true : goal.returns-in-false-true
returns-in-false-true c = sym (letter_at_law 12 _ _ false true (sym c.in-false-true.ensures) (sym c.in-false-true.ensures'))

pub returns-in-false-false : goal.returns-in-false-false
returns-in-false-false c = sym (letter_at_law 12 _ _ false false (sym c.in-false-false.ensures) (sym c.in-false-false.ensures'))
