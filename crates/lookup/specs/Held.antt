-- What a lookup walks by: the strings of the natives, as their cells show them, and the values of the table. Assumes nothing.
use Rattle.std.specs.Prelude.{ℕ}
use Rattle.natives.specs.Cells.{shown}
use Rattle.table.specs.Bytes.{entry}
use Rattle.lookup.specs.declared.Walker.{Walker}

-- the string of each native
abbrev pub strings : Walker → ℕ → ℕ
strings w = shown w.cells.now.cells

-- the value at each index
abbrev pub values : Walker → ℕ → ℕ
values w = entry w.table.bytes.now
