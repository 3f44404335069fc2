-- `natives::alone` meets its contract: the walk passes every greater native of the bucket, so it meets an equal string if there is one; it
-- ends because a chain ascends. Assumes nothing.
use mathlib.Core.Path.{refl, sym, ◌∙◌}
use native.Mathlib.Omega.{arith}
use Rattle.natives.specs.Arrays.{at}
use Rattle.natives.proofs.Kept.{not_kept}
use Rattle.natives.proofs.Chains.{clear_start, clear_more, clear_kept}
use Rattle.natives.proofs.alone.Goals as goal

pub loop-m-init : goal.loop-m-init
loop-m-init c =
    let g = c.args in
    let p = c.requires.linked.1 in
    rw c.from-m.ensures (omega (arith, p.low), p.high, refl, clear_start g.s.now g.n g.first p, p.meets)

pub returns-then-s-m : goal.returns-then-s-m
returns-then-s-m c =
    let g = c.args in
    let w = c.loop-m in
    sym (not_kept (at g.s.now) g.n w.m w.invariant.0 (omega arith) (c.if-s-m.true ∙ w.invariant.2))

pub loop-m-smaller : goal.loop-m-smaller
loop-m-smaller c =
    let w = c.loop-m in
    let q = c.requires.linked.0 w.m (omega arith) (omega arith) in
    omega (arith, q.low, q.high)

pub loop-m-preserved : goal.loop-m-preserved
loop-m-preserved c =
    let g = c.args in
    let w = c.loop-m in
    let q = c.requires.linked.0 w.m (omega arith) (omega arith) in
    rw c.from-m-in-loop-m.ensures (
      omega (arith, q.low),
      q.high,
      w.invariant.2,
      clear_more g.s.now g.n w.m (at g.next.now w.m) w.invariant.3 (λ e. c.if-s-m.false (e ∙ sym w.invariant.2)) (w.invariant.4 (omega arith)) q,
      λ l. q.meets l ∙ w.invariant.4 (omega arith),
    )

pub returns : goal.returns
returns c =
    let g = c.args in
    let w = c.loop-m in
    sym (clear_kept g.s.now g.n w.m (omega arith) (omega arith) w.invariant.3)
