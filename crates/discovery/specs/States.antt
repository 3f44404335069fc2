-- What keeps a build in range: the lengths of the buffers, and the counts of entries, in all and for one pivot letter. Assumes nothing.
use Rattle.std.specs.Prelude.{◌≡◌, ℕ, ◌+◌, ◌-◌, ◌*◌, ◌^◌, ◌≤◌, ◌<◌, length}
use Rattle.std.proofs.Common.{lit<, lit≤}
use Rattle.pauli_string.specs.Strings.{qubits, pivot_bits, logical_bits, rotation_of}
use Rattle.pauli_string.proofs.Rotation.{pivot_logical}
use Rattle.native_measurement.specs.Natives.{natives}
use Rattle.shortest.specs.Graphs.{Has}
use Rattle.shortest.specs.Counts.{Classes, in_class, Counted}
use Rattle.table.specs.Bytes.{table_length, entry}
use Rattle.table.specs.Entries.{depth}
use Rattle.discovery.specs.Model.{State}

-- The strings of one pivot letter are a class: a string is its pivot letter and the letters above it.
unfoldable pub classes : ℕ → Classes
classes q = record {
  total = 4 ^ q;
  size = 4 ^ (q - 1);
  cls = pivot_bits q;
  ix = logical_bits q;
  mem = λ c i. rotation_of q i + c;
  ix_small = λ p h. (pivot_logical q p h).0;
  mem_ix = λ p h. (pivot_logical q p h).1;
}

-- strings have letters, and four bytes hold every value and every string
pub record Fits (q : ℕ) : Type 0 where
  pub some : 0 < q
  pub values : 1024 * 4 ^ (q - 1) ≤ 2 ^ 32
  pub strings : 4 ^ q ≤ 2 ^ 32

abbrev pub twelve : Fits qubits
twelve = record { some = lit< tt; values = lit≤ tt; strings = lit≤ tt }

-- how many strings with the pivot letter of x have an entry
abbrev pub entries_alike : ℕ → State → ℕ → ℕ
entries_alike q s x = in_class (classes q) (entry s.table) (pivot_bits q x)

-- table and queue have their lengths, and the counts hold
pub record Good (q : ℕ) (s : State) : Type 0 where
  pub table_long : length s.table ≡ table_length q
  pub queue_long : length s.queue ≡ table_length q
  pub counted : Counted (classes q) depth (entry s.table) (entry s.queue) s.count

-- what a discovery of x by native n asks: its depth is at most the number of strings with an entry that have the pivot letter of x
pub record Asks (q : ℕ) (s : State) (x d n : ℕ) : Type 0 where
  pub small : x < 4 ^ q
  pub native_below : n < natives
  pub low : d ≤ entries_alike q s x

-- p, which has an entry, is to have its turn at depth d
pub record Moving (q p d : ℕ) (s : State) : Type 0 where
  pub good : Good q s
  pub small : p < 4 ^ q
  pub has : Has (entry s.table) p
  pub next : d ≡ depth (entry s.table p) + 1

-- x has the pivot letter of p
pub record Beside (q p x n : ℕ) : Type 0 where
  pub small : x < 4 ^ q
  pub native_below : n < natives
  pub alike : pivot_bits q x ≡ pivot_bits q p
