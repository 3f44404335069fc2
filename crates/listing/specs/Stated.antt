-- What of a listing states its plan again: the `base=` and `rotation=` lines, put behind the lines of the matrices. Assumes nothing.
use Rattle.std.specs.Prelude.{Bool, cond, ◌||◌, ℕ}
use mathlib.Core.List.{List, [], ◌++◌, flat_map}
use Rattle.bicycle_common.specs.Bytes.{bytes_of}
use Rattle.reader.specs.Lines.{lines, line_at, begins}

-- a line that states a native
abbrev pub states_native : List ℕ → Bool
states_native l = begins (bytes_of "base=") l || begins (bytes_of "rotation=") l

-- such a line, and nothing of another
abbrev pub native_only : List ℕ → List ℕ
native_only l = cond (states_native l) l []

-- these lines of a text
unfoldable pub stated : List ℕ → List ℕ
stated s = flat_map native_only (lines s)

-- the first two lines of a text
abbrev pub matrices : List ℕ → List ℕ
matrices s = line_at 0 (lines s) ++ line_at 1 (lines s)
