-- A filter over the strings: a string whose bucket is 0 leads to no string without an entry. Entries stay, so a filter stays right.
-- Assumes nothing.
use Rattle.std.specs.Prelude.{List, ◌≡◌, ℕ, ◌+◌, ◌*◌, ◌/◌, ◌%◌, ◌^◌, ◌<◌, length}
use Rattle.pauli_string.specs.Strings.{rotate}
use Rattle.natives.specs.Arrays.{at}
use Rattle.table.specs.Bytes.{entry}
use Rattle.digits.specs.Digits.{digit}

-- how many bytes hold the buckets, a binary digit each
abbrev pub buckets : ℕ
buckets = 262144

-- the number of p's bucket: p without digits 6, 18 and 23
abbrev pub place : ℕ → ℕ
place p = p % 64 + p / 128 % 2048 * 64 + p / 524288 % 16 * 131072

-- the bucket of p
abbrev pub bucket : List ℕ → ℕ → ℕ
bucket filter p = digit filter (place p)

-- every string that one of the first m rotations leads to a string without an entry has its bucket set
pub record Covers (q : ℕ) (rs : List ℕ) (m : ℕ) (filter t : List ℕ) : Type 0 where
  pub long : length filter ≡ buckets
  pub sees : (p i : ℕ) → p < 4 ^ q → i < m → entry t (rotate q p (at rs i)) ≡ 0 → bucket filter p ≡ 0 → ⊥

-- no bucket that was set is 0
abbrev pub Rises : List ℕ → List ℕ → Type 0
Rises before after = (b : ℕ) → digit after b ≡ 0 → digit before b ≡ 0

-- the buckets of what the first k rotations lead z to are set
abbrev pub Marked : ℕ → List ℕ → List ℕ → ℕ → ℕ → Type 0
Marked q rs filter z k = (i : ℕ) → i < k → bucket filter (rotate q z (at rs i)) ≡ 0 → ⊥

-- so for each string below k that is without an entry
abbrev pub Filled : ℕ → List ℕ → ℕ → List ℕ → List ℕ → ℕ → Type 0
Filled q rs m filter t k = (z : ℕ) → z < k → entry t z ≡ 0 → Marked q rs filter z m
