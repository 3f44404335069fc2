-- `table_check::work` is safe: it counts at most one for each string. Assumes nothing.
use Prim.Native.Nat.{◌≤◌}
use Rattle.table_check.proofs.work.Given as goal

abbrev pub invariant-loop-p : goal.invariant-loop-p
invariant-loop-p l = l.n ≤ l.p
