-- `pauli_string::PauliString::set_pauli_unchecked` meets its contract: both digits of the letter are set. Assumes nothing.
use mathlib.Core.Path.{ap, ap₂, ◌∙◌}
use Prim.Native.Nat.{ℕ, ◌+◌}
use native.Mathlib.Nat.{add_comm}
use Rattle.bicycle_common.specs.Letters.{x_of, z_of}
use Rattle.pauli_string.specs.Strings.{set_bit, set_letter}
use Rattle.pauli_string.proofs.PauliString.set_pauli_unchecked.Goals as goal

pub returns : goal.returns
unfolding set_letter
returns c =
    let p : ℕ = c.args.self.0 in
    let i : ℕ = c.args.i in
    c.set_bit.ensures
    ∙ ap₂ (λ (n b : ℕ). set_bit n (i + 12) b) (c.set_bit-x.ensures ∙ ap (set_bit p i) c.has_x.ensures) c.has_z.ensures
    ∙ ap (λ (k : ℕ). set_bit (set_bit p i (x_of c.args.p)) k (z_of c.args.p)) (add_comm i 12)
