-- `text::number_in` meets its contract: v is what the digits before byte b stand for, and three of them are below 1,000. Assumes nothing.
use mathlib.Core.Path.{refl, sym, ◌∙◌}
use Prim.Native.Nat.{◌<◌}
use native.Mathlib.Omega.{arith}
use Rattle.text.proofs.Decimals.{all_next, so_far_next, number_none, small_before}
use Rattle.text.proofs.number_in.Goals as goal

pub loop-b-init : goal.loop-b-init
loop-b-init c = record { digits = c.requires.1; number = refl; small = omega arith }

pub overflow_mul-v : goal.overflow_mul-v
overflow_mul-v c =
    let k : c.loop-b.b-index < 3 = omega arith in
    omega (arith, small_before _ _ c.loop-b.invariant.small k)

pub overflow_sub-b : goal.overflow_sub-b
overflow_sub-b c = (all_next _ _ c.loop-b-test.true c.loop-b.invariant.digits).0.low

pub overflow_add-v : goal.overflow_add-v
overflow_add-v c =
    let k : c.loop-b.b-index < 3 = omega arith in
    omega (arith, small_before _ _ c.loop-b.invariant.small k, (all_next _ _ c.loop-b-test.true c.loop-b.invariant.digits).0.high, c.from.ensures)

pub loop-b-preserved : goal.loop-b-preserved
loop-b-preserved c = rw c.from.ensures (so_far_next _ _ _ c.loop-b.invariant c.loop-b-test.true)

pub returns : goal.returns
returns c = sym (number_none _ _ _ c.loop-b-test.false) ∙ c.loop-b.invariant.number
