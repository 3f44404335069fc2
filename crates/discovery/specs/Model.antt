-- The build as document 01 lays it down, on the bytes of table and queue. f n is the string of native n, over q qubits. Assumes nothing.
use Rattle.std.specs.Prelude.{cond, List, ℕ, ◌+◌, ◌^◌, eqb, ltb}
use Rattle.bicycle_common.specs.Ranges.{in_turn}
use Rattle.native_measurement.specs.Natives.{natives}
use Rattle.natives.specs.Kept.{kept_for}
use Rattle.table.specs.Bytes.{table_length, entry, put, zeros}
use Rattle.table.specs.Entries.{depth, value, identity, is_rotation, leads}

-- table and queue, and how many strings the queue holds
pub record State : Type 0 where
  pub table : List ℕ
  pub queue : List ℕ
  pub count : ℕ

abbrev pub state : List ℕ → List ℕ → ℕ → State
state t q c = record { table = t; queue = q; count = c }

-- The first discovery stays: string x, if it is without an entry, gets the value v and the next place in the queue.
unfoldable pub discover : ℕ → ℕ → State → State
discover x v s = cond (eqb (entry s.table x) 0) (state (put s.table x v) (put s.queue s.count x) (s.count + 1)) s

-- index 0 holds 541, and everything else 0
unfoldable pub begun : ℕ → State
begun q = state (put (zeros (table_length q)) 0 identity) (zeros (table_length q)) 0

-- native n as a source: its string, if it is not 0, is discovered at depth 0, with the number kept for it
unfoldable pub seed : (ℕ → ℕ) → ℕ → State → State
seed f n s = cond (eqb (f n) 0) s (discover (f n) (value 0 (kept_for f (f n))) s)

-- native n tried on p: if it is a rotation, what it leads to is discovered at depth d
unfoldable pub attempt : ℕ → (ℕ → ℕ) → ℕ → ℕ → ℕ → State → State
attempt q f p d n s = cond (is_rotation q f n) (discover (leads q f p n) (value d n) s) s

-- the turn of p: all natives in ascending number, at one depth more than that of p
unfoldable pub turn : ℕ → (ℕ → ℕ) → ℕ → State → State
turn q f p s = in_turn natives (attempt q f p (depth (entry s.table p) + 1)) s

-- place i of the queue, if there is a string
unfoldable pub expand : ℕ → (ℕ → ℕ) → ℕ → State → State
expand q f i s = cond (ltb i s.count) (turn q f (entry s.queue i) s) s

-- all sources, in native order
unfoldable pub seeded : ℕ → (ℕ → ℕ) → State
seeded q f = in_turn natives (seed f) (begun q)

-- then all strings, in order of discovery
unfoldable pub built : ℕ → (ℕ → ℕ) → State
built q f = in_turn (4 ^ q) (expand q f) (seeded q f)
