-- `pauli_string::PauliString::letters_unchecked` meets its contract: place by place the array has the letters of the string. Assumes nothing.
use borrow.Author.Rules.{rules}
use Prim.Native.Nat.{ℕ, ◌<◌}
use mathlib.Core.Path.{◌≡◌}
use lib.ListN.{get_or}
use Rattle.bicycle_common.specs.declared.Pauli.TheVariants.{I}
use Rattle.bicycle_common.proofs.Ranges.{listed_all}
use Rattle.pauli_string.specs.Strings.{letter_at}
use Rattle.pauli_string.specs.Text.{letters}
use Rattle.pauli_string.proofs.PauliString.letters_unchecked.Goals as goal

pub returns : goal.returns
unfolding letters
returns c =
    let e : (i : ℕ) → i < 12 → get_or c.from_fn.result i I ≡ letter_at 12 c.args.self.0 i = search rules in
    listed_all (letter_at 12 c.args.self.0) I c.from_fn.result 12 c.from_fn.ensures.items.long e
