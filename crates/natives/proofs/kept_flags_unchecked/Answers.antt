-- `natives::kept_flags_unchecked` meets its contract: from the greatest native down, each finds the chain of its bucket, and then becomes the
-- chain's head. Assumes nothing.
use mathlib.Core.Path.{◌≡◌, refl, subst}
use mathlib.Core.Bool.{Bool, false}
use Prim.Native.Nat.{ℕ, ◌+◌, ◌-◌}
use native.Mathlib.Omega.{arith}
use lib.ListN.{length-set}
use Rattle.bicycle_common.proofs.Ranges.{listed_all}
use Rattle.natives.specs.Kept.{kept}
use Rattle.natives.specs.Arrays.{at}
use Rattle.natives.specs.Chains.{bucket, Next, Linked, Heads}
use Rattle.natives.proofs.Chains.{stored_down, heads_more, heads_start}
use Rattle.natives.proofs.kept_flags_unchecked.Goals as goal

pub loop-n-init : goal.loop-n-init
loop-n-init c = (refl, refl, refl, λ m a b. absurd (omega arith), heads_start (bucket c.args.s.now), λ t a b. absurd (omega arith))

pub alone-requires-clause-linked : goal.alone-requires-clause-linked
alone-requires-clause-linked c =
    let f = bucket c.args.s.now in
    let w = c.loop-n in
    let e : w.n ≡ w.n - 1 + 1 = omega arith in (
      subst (λ (x : ℕ). Linked f w.next x) e w.invariant.3,
      subst (λ (x : ℕ). Heads f w.head x) e w.invariant.4 (f (w.n - 1)) (omega arith),
    )

pub loop-n-preserved : goal.loop-n-preserved
loop-n-preserved c =
    let s = c.args.s.now in
    let f = bucket s in
    let w = c.loop-n in
    let k = w.n - 1 in
    let e : w.n ≡ w.n - 1 + 1 = omega arith in
    let heads = subst (λ (x : ℕ). Heads f w.head x) e w.invariant.4 in (
      simp length-set (omega arith),
      simp length-set (omega arith),
      simp length-set (omega arith),
      stored_down (λ (t x : ℕ). Next f (f t) (t + 1) x) w.next 0 k _ (omega arith) (subst (λ (x : ℕ). Linked f w.next x) e w.invariant.3)
          (heads (f k) (omega arith)),
      heads_more f w.head k (omega arith) (omega arith) heads,
      stored_down (λ (t : ℕ) (x : Bool). x ≡ kept (at s) t) w.out false k _ (omega arith) (λ t a b. w.invariant.5 t (omega arith) b) c.alone.ensures,
    )

pub returns : goal.returns
returns c =
    let w = c.loop-n in
    listed_all (kept (at c.args.s.now)) false w.out 540 w.invariant.2 (λ t h. w.invariant.5 t (omega arith) h)
