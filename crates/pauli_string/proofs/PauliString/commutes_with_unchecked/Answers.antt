-- `pauli_string::PauliString::commutes_with_unchecked` meets its contract: the word is the transposed string, and its ones in common
-- with the other are as even as the clashing qubits. Assumes nothing.
use mathlib.Core.Path.{◌∙◌, ap}
use Prim.Native.Nat.{ℕ, ◌%◌}
use lib.Bits.{bit_and}
use lib.Count.{ones}
use lib.Dec.{eqb, lit≤}
use Rattle.pauli_string.specs.Strings.{commute}
use Rattle.pauli_string.proofs.Commutation.{transpose_law, count_law}
use Rattle.pauli_string.proofs.PauliString.commutes_with_unchecked.Goals as goal

pub returns : goal.returns
unfolding commute
returns c =
    let p : ℕ = c.args.self.0 in
    let r : ℕ = c.args.rhs.0 in
    ap (λ (n : ℕ). eqb n 0)
    (ap (λ (n : ℕ). ones (bit_and n r) % 2) (transpose_law 32 12 p (lit≤ tt) c.requires.0) ∙ count_law 12 p r c.requires.0 c.requires.1)
