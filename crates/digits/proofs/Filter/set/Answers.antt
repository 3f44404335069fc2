-- `Filter::set` meets its contract: the bucket's digit is made 1, and the others are left. Assumes nothing.
use native.Mathlib.Omega.{arith}
use Prim.Native.Nat.{◌/◌, ◌<◌}
use lib.ListN.{length}
use Rattle.digits.proofs.Digits.{one_here, one_rises}
use Rattle.digits.proofs.Filter.set.Goals as goal

pub returns : goal.returns
returns c =
    let d = c.args.self.now.digits in
    let b = c.place.result in
    let l : b / 8 < length d = omega (arith, c.args.self.now.long, c.place.ensures.1) in
    rw (c.set_one_unchecked.ensures, ← c.place.ensures.0) (one_rises d b l, one_here d b l)
