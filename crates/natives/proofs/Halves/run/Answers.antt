-- `natives::Halves::run` meets its contract: each turn takes the last word one step further. Assumes nothing.
use mathlib.Core.Path.{refl, ◌∙◌}
use Prim.Native.Nat.{◌-◌}
use native.Mathlib.Omega.{arith}
use Rattle.bicycle_common.proofs.Filled.{filled_more, filled_each}
use Rattle.natives.specs.Arrays.{at}
use Rattle.natives.proofs.Words.{walked_first, walked_lt, walked_next}
use Rattle.natives.proofs.Halves.run.Goals as goal

pub loop-t-init : goal.loop-t-init
loop-t-init c =
    let g = c.args in
    record { within = omega arith; long = refl; each = walked_first g.self.now.low g.self.now.high g.v }

pub step-requires : goal.step-requires
step-requires c =
    let w = c.loop-t in
    let h = c.args.self.now in
    let e = w.invariant.each (w.t - 1) (omega arith) in
    omega (arith, e, walked_lt h.low h.high h.low_small h.high_small c.args.v c.requires (w.t - 1))

pub loop-t-preserved : goal.loop-t-preserved
loop-t-preserved c =
    let w = c.loop-t in
    let h = c.args.self.now in
    let e = walked_next h.low h.high c.args.v w.t (at w.words (w.t - 1)) (omega arith) (w.invariant.each (w.t - 1) (omega arith)) in
    filled_more w.invariant (omega arith) (c.step.ensures ∙ e)

pub invariant_of-result : goal.invariant_of-result
invariant_of-result c =
    let h = c.args.self.now in
    record {
      small = λ k l. rw (filled_each c.loop-t.invariant (omega arith) k l) (walked_lt h.low h.high h.low_small h.high_small c.args.v c.requires k);
    }

pub returns : goal.returns
returns c = filled_each c.loop-t.invariant (omega arith)
