-- What a check, and one string of it, reads: the string of each native and the value at each index. Assumes nothing.
use Rattle.std.specs.Prelude.{ℕ}
use Rattle.natives.specs.Arrays.{at}
use Rattle.table.specs.Bytes.{entry}
use Rattle.table_check.specs.declared.Checker.{Checker}
use Rattle.table_check.specs.declared.Place.{Place}

abbrev pub strings_of : Checker → ℕ → ℕ
strings_of c = at c.natives.now.strings

abbrev pub values_of : Checker → ℕ → ℕ
values_of c = entry c.table.bytes.now

-- the same, where one string is tested
abbrev pub strings_at : Place → ℕ → ℕ
strings_at p = strings_of p.checker.now

abbrev pub values_at : Place → ℕ → ℕ
values_at p = values_of p.checker.now
