-- `moves::odd` meets its contract: folding leaves the parity of the ones. Assumes nothing.
use mathlib.Core.Path.{refl}
use native.Mathlib.Omega.{arith}
use lib.Bits.{bit_and, and_le_r}
use Rattle.moves.proofs.Parity.{folded}
use Rattle.moves.proofs.odd.Goals as goal

pub returns : goal.returns
returns c =
    let a = c.args in
    folded (bit_and a.t a.r) _ (omega (arith, and_le_r a.t a.r, c.requires)) refl
