-- `table_check::Checker::ceiling` meets its contract: a wrong native brings the end down to its string. Assumes nothing.
use mathlib.Core.Path.{◌≡◌, ◌∙◌}
use native.Mathlib.Omega.{arith}
use Rattle.std.proofs.lemmas.Bool.Decides.{not_from_Decides}
use Rattle.table_check.proofs.Least.{by_takes, by_skips}
use Rattle.table_check.proofs.Checker.ceiling.Goals as goal
use Rattle.table_check.proofs.Checker.ceiling.Goals.{then-is_wrong, else-is_wrong}

pub loop-n-preserved : goal.loop-n-preserved
loop-n-preserved c = elim c.if-is_wrong.branch [
  | then-is_wrong w ↦ by_takes _ _ _ _ _ c.loop-n.invariant _ (λ p h. h.keeps.measures) (c.is_wrong.ensures.0 w.if-is_wrong.true) (w.end-is ∙ w.min-end.ensures)
  | else-is_wrong w ↦ by_skips _ _ _ _ _ c.loop-n.invariant _ (λ p h. h.keeps.measures) (not_from_Decides _ c.is_wrong.ensures w.if-is_wrong.false) w.end-is
]

pub returns : goal.returns
returns c = let z : c.loop-n.n ≡ 540 = omega arith in rw z at c.loop-n.invariant
