-- `table_check::Checker::sink_of` meets its contract: the end sinks string by string. Assumes nothing.
use Rattle.table_check.specs.Checkers.{values_of}
use Rattle.table_check.specs.Tests.{Least, High}
use Rattle.table_check.proofs.Checker.sink_of.Given as goal

abbrev pub invariant-loop-x : goal.invariant-loop-x
invariant-loop-x l = Least (High (values_of l.self) l.h l.xs l.x-index) l.end l.r
