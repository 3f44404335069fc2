-- What is told of a string at once: each part is what `table` answers. Assumes nothing.
use Rattle.std.specs.Prelude.{List, ℕ}
use Rattle.table.specs.Answers.{value_at, has_entry_at, depth_at, cost_at}
use Rattle.view.specs.declared.EntryAnswer.{EntryAnswer}

abbrev pub entry_at : ℕ → List ℕ → ℕ → EntryAnswer
entry_at q t p = record { value = value_at q t p; has_entry = has_entry_at q t p; depth = depth_at q t p; cost = cost_at q t p }
