-- `table_check::Checker::sink_of` meets its contract: a string that stands so high brings the end down to it. Assumes nothing.
use mathlib.Core.Path.{refl, ap, ◌∙◌}
use native.Mathlib.Omega.{arith}
use Rattle.table_check.specs.Tests.{height}
use Rattle.table_check.proofs.Least.{by_takes, by_skips}
use Rattle.table_check.proofs.Checker.sink_of.Goals as goal
use Rattle.table_check.proofs.Checker.sink_of.Goals.{then-height-h, else-height-h}

pub loop-x-preserved : goal.loop-x-preserved
loop-x-preserved c =
    let z = c.height.ensures.0 ∙ ap height c.entry_unchecked.ensures in
    elim c.if-height-h.branch [
      | then-height-h w ↦ by_takes _ _ _ _ _ c.loop-x.invariant _ (λ p h. h.0) (refl, omega (arith, z)) (w.r-is ∙ w.min-r.ensures)
      | else-height-h w ↦ by_skips _ _ _ _ _ c.loop-x.invariant _ (λ p h. h.0) (λ h. omega (arith, z, h.1)) w.r-is
    ]
