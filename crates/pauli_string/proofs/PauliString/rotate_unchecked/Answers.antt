-- `pauli_string::PauliString::rotate_unchecked` meets its contract: it conjugates by the blanked string. Assumes nothing.
use mathlib.Core.Path.{ap, ◌∙◌}
use native.Mathlib.Omega.{arith}
use Rattle.pauli_string.specs.Strings.{conj, rotate}
use Rattle.pauli_string.proofs.Pivot.{blank_le}
use Rattle.pauli_string.proofs.PauliString.rotate_unchecked.Goals as goal

pub conjugate_with_unchecked-requires : goal.conjugate_with_unchecked-requires
conjugate_with_unchecked-requires c = (c.requires.0, omega (arith, blank_le 12 c.args.rhs.0, c.zero_pivot_unchecked-blanked.ensures))

pub returns : goal.returns
unfolding rotate
returns c = c.conjugate_with_unchecked.ensures ∙ ap (conj 12 c.args.self.0) c.zero_pivot_unchecked-blanked.ensures
