-- `pauli_string::PauliString::conjugate_with_unchecked` meets its contract: the test decides which case of `conj` holds. Assumes nothing.
use mathlib.Core.Path.{◌∙◌, sym}
use Rattle.pauli_string.proofs.Commutation.{conj_commuting, conj_anti}
use Rattle.pauli_string.proofs.PauliString.conjugate_with_unchecked.Goals as goal

pub returns-then-commutes_with_unchecked : goal.returns-then-commutes_with_unchecked
returns-then-commutes_with_unchecked c = sym (conj_commuting 12 _ _ (sym c.commutes_with_unchecked.ensures ∙ c.if-commutes_with_unchecked.true))

pub returns-else-commutes_with_unchecked : goal.returns-else-commutes_with_unchecked
returns-else-commutes_with_unchecked c = sym (conj_anti 12 _ _ (sym c.commutes_with_unchecked.ensures ∙ c.if-commutes_with_unchecked.false))
