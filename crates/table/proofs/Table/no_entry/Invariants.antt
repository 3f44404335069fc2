-- `table::Table::no_entry` meets its contract: a value that is not 0 decides, and at the end none was met. Assumes nothing.
use mathlib.Core.Path.{◌≡◌}
use Prim.Native.Nat.{ℕ, ◌<◌}
use Rattle.table.specs.Bytes.{entry}
use Rattle.table.proofs.Table.no_entry.Given as goal

abbrev pub invariant-loop-p : goal.invariant-loop-p
invariant-loop-p l = (j : ℕ) → j < l.p → entry l.self.bytes.now j ≡ 0
