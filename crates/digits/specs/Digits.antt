-- Bytes as binary digits: digit b stands in byte b / 8, at place b % 8. Assumes nothing.
use Rattle.std.specs.Prelude.{List, ℕ, ◌/◌, ◌%◌, set}
use Rattle.pauli_string.specs.Strings.{bit, set_bit}
use Rattle.natives.specs.Arrays.{at}

abbrev pub digit : List ℕ → ℕ → ℕ
digit bytes b = bit (at bytes (b / 8)) (b % 8)

-- the bytes with digit b made 1
abbrev pub one : List ℕ → ℕ → List ℕ
one bytes b = set bytes (b / 8) (set_bit (at bytes (b / 8)) (b % 8) 1)
