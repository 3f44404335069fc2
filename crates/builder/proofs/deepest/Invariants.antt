-- `builder::deepest` meets its contract: the best so far is the greatest of the depths passed. Assumes nothing.
use mathlib.Core.Path.{◌≡◌}
use Prim.Native.Nat.{ℕ}
use Rattle.bicycle_common.specs.Ranges.{most}
use Rattle.table.specs.Bytes.{entry}
use Rattle.table.specs.Entries.{depth}
use Rattle.builder.proofs.deepest.Given as goal

abbrev pub invariant-loop-p : goal.invariant-loop-p
invariant-loop-p l = l.best ≡ most l.p (λ (r : ℕ). depth (entry l.table.bytes.now r))
