-- `natives::kept_flags_unchecked` meets its contract: from the greatest native down, each finds the chain of its bucket, and then becomes the
-- chain's head. Assumes nothing.
use mathlib.Core.Path.{◌≡◌}
use mathlib.Core.Bool.{false}
use Prim.Native.Nat.{ℕ, ◌<◌, ◌≤◌}
use lib.ListN.{length, get_or}
use Rattle.natives.specs.Kept.{kept}
use Rattle.natives.specs.Arrays.{at}
use Rattle.natives.specs.Chains.{bucket, Linked, Heads}
use Rattle.natives.proofs.kept_flags_unchecked.Given as goal

abbrev pub invariant-loop-n : goal.invariant-loop-n
invariant-loop-n l =
    (length l.head ≡ 1021)
    × (length l.next ≡ 540)
    × (length l.out ≡ 540)
    × Linked (bucket l.s) l.next l.n
    × Heads (bucket l.s) l.head l.n
    × ((t : ℕ) → l.n ≤ t → t < 540 → get_or l.out t false ≡ kept (at l.s) t)
