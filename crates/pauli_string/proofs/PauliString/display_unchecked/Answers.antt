-- `pauli_string::PauliString::display_unchecked` meets its contract: place by place the array has the text of the string. Assumes nothing.
use borrow.Author.Rules.{rules}
use Prim.Native.Nat.{ℕ, ◌-◌, ◌<◌}
use mathlib.Core.Path.{◌≡◌, sym, ◌∙◌}
use native.Mathlib.Omega.{arith}
use lib.ListN.{get_or}
use lib.Seq.{ext_get_or}
use Rattle.bicycle_common.specs.Letters.{capital}
use Rattle.bicycle_common.specs.declared.Pauli.TheVariants.{I}
use Rattle.pauli_string.specs.Strings.{letter_at}
use Rattle.pauli_string.specs.Text.{text}
use Rattle.pauli_string.proofs.Text.{length_text, text_at}
use Rattle.pauli_string.proofs.PauliString.display_unchecked.Goals as goal

pub returns : goal.returns
returns c =
    let p = c.args.self.0 in
    let long = c.from_fn.ensures.items.long in
    let e : (i : ℕ) → i < 12 → get_or c.from_fn.result i (capital I) ≡ capital (letter_at 12 p (11 - i)) = search rules in
    ext_get_or (capital I) c.from_fn.result (text 12 p) (long ∙ sym (length_text 12 p))
    (λ i h. let j : i < 12 = omega (arith, long) in e i j ∙ sym (text_at 12 p i j))
