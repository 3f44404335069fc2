-- `table::Table::len_unchecked` meets its contract: the count so far is that of the values passed. Assumes nothing.
use mathlib.Core.Path.{◌≡◌}
use Rattle.shortest.specs.Counts.{entries_in}
use Rattle.table.specs.Bytes.{entry}
use Rattle.table.proofs.Table.len_unchecked.Given as goal

abbrev pub invariant-loop-p : goal.invariant-loop-p
invariant-loop-p l = l.n ≡ entries_in (entry l.self.bytes.now) l.p
