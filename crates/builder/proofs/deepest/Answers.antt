-- `builder::deepest` meets its contract: the best so far is the greatest of the depths passed. Assumes nothing.
use mathlib.Core.Path.{sym}
use Prim.Native.Nat.{ℕ}
use native.Mathlib.Omega.{arith}
use Rattle.bicycle_common.proofs.Ranges.{most_none, most_next}
use Rattle.table.specs.Bytes.{entry}
use Rattle.table.specs.Entries.{depth}
use Rattle.builder.proofs.deepest.Goals as goal

pub loop-p-init : goal.loop-p-init
loop-p-init c = sym (most_none (λ (r : ℕ). depth (entry c.args.table.bytes.now r)))

pub loop-p-preserved : goal.loop-p-preserved
loop-p-preserved c = omega (arith, most_next c.loop-p.p (λ (r : ℕ). depth (entry c.args.table.bytes.now r)))
