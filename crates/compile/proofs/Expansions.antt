-- The rotation of a code by a native whose string is at hand. Assumes nothing.
use Rattle.std.specs.Prelude.{List, ◌≡◌, ℕ, Ok}
use Rattle.pauli_string.specs.declared.PauliString.{PauliString}
use Rattle.measurement.specs.Answers.{measures_bytes}
use Rattle.compile.specs.Expansions.{rotation_by, rotation_instructions}

pub with_string : (q s : ℕ) (mx my : List ℕ) (n : ℕ) (p : PauliString) → measures_bytes s mx my n ≡ Ok p → rotation_by q n p.0 ≡ rotation_instructions q s mx my n
unfolding rotation_instructions
with_string q s mx my n p e = rw e
