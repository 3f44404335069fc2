-- `digits::set_one_unchecked` meets its contract: an or sets the digit in its byte. Assumes nothing.
use mathlib.Core.Path.{ap}
use Prim.Native.Nat.{◌/◌, ◌%◌}
use native.Mathlib.Omega.{arith}
use lib.ListN.{set}
use Rattle.pauli_string.proofs.Places.{set_one}
use Rattle.natives.specs.Arrays.{at}
use Rattle.digits.proofs.set_one_unchecked.Goals as goal

pub returns : goal.returns
returns c =
    let a = c.args in
    ap (set a.bytes.now (a.b / 8)) (set_one 8 (a.b % 8) (at a.bytes.now (a.b / 8)) (omega arith))
