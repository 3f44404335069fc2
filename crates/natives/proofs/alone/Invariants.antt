-- `natives::alone` meets its contract: the walk passes every greater native of the bucket, so it meets an equal string if there is one; it
-- ends because a chain ascends. Assumes nothing.
use mathlib.Core.Path.{◌≡◌}
use Prim.Native.Nat.{◌-◌, ◌<◌, ◌≤◌}
use Rattle.natives.specs.Arrays.{at}
use Rattle.natives.specs.Chains.{bucket}
use Rattle.natives.proofs.Chains.{Clear}
use Rattle.natives.proofs.alone.Given as goal

abbrev pub invariant-loop-m : goal.invariant-loop-m
invariant-loop-m l = (l.n < l.m) × (l.m ≤ 540) × (l.v ≡ at l.s l.n) × Clear l.s l.n l.m × (l.m < 540 → bucket l.s l.m ≡ bucket l.s l.n)

abbrev pub decreases-loop-m : goal.decreases-loop-m
decreases-loop-m l = 540 - l.m
