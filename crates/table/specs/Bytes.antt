-- The bytes of a table, and of a queue: entry p is four bytes, low first, at 4p. Assumes nothing.
use Rattle.std.specs.Prelude.{List, ℕ, ◌+◌, ◌*◌, ◌/◌, ◌%◌, ◌^◌, get_or, set, replicate}

-- the bytes of a table of the strings of q letters
abbrev pub table_length : ℕ → ℕ
table_length q = 4 * 4 ^ q

-- the value of entry p
unfoldable pub entry : List ℕ → ℕ → ℕ
entry t p = get_or t (4 * p) 0 + 256 * get_or t (4 * p + 1) 0 + 65536 * get_or t (4 * p + 2) 0 + 16777216 * get_or t (4 * p + 3) 0

-- the bytes with the value v, which has four bytes, in entry p
unfoldable pub put : List ℕ → ℕ → ℕ → List ℕ
put t p v =
    set
    (set (set (set t (4 * p) (v % 256)) (4 * p + 1) (v / 256 % 256)) (4 * p + 2) (v / 65536 % 256))
    (4 * p + 3)
    (v / 16777216 % 256)

-- n bytes, all zero
unfoldable pub zeros : ℕ → List ℕ
zeros n = replicate n 0
