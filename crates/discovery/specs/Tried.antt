-- Discoveries in turn, all at one depth. Assumes nothing.
use Rattle.std.specs.Prelude.{ℕ}
use Rattle.table.specs.Entries.{value}
use Rattle.discovery.specs.Model.{State, discover}

-- string x j by native m j, at depth d
abbrev pub tried : (ℕ → ℕ) → (ℕ → ℕ) → ℕ → ℕ → State → State
tried x m d j s = discover (x j) (value d (m j)) s
