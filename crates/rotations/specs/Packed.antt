-- The rotations of a pair, packed: their blanked strings in front of one array, their natives' numbers in front of another. Assumes nothing.
use Rattle.std.specs.Prelude.{Bool, true, false, List, ◌≡◌, ℕ, ◌+◌, ◌≤◌, ◌<◌, ◌^◌, length}
use Rattle.pauli_string.specs.Strings.{blank}
use Rattle.native_measurement.specs.Natives.{natives}
use Rattle.natives.specs.Arrays.{at}
use Rattle.table.specs.Entries.{is_rotation}

-- g 0, .., g (m - 1) are the numbers below k of which c is true, ascending
pub data Chosen (c : ℕ → Bool) (g : ℕ → ℕ) : ℕ → ℕ → Type 0 where
  none : Chosen c g 0 0
  skips : {m k : ℕ} → Chosen c g m k → c k ≡ false → Chosen c g m (k + 1)
  takes : {m k : ℕ} → Chosen c g m k → c k ≡ true → g m ≡ k → Chosen c g (m + 1) (k + 1)

-- blanked strings in rs, of which m count, and natives' numbers in ns
pub record Blanked (q : ℕ) (rs ns : List ℕ) (m : ℕ) : Type 0 where
  pub long_r : length rs ≡ natives
  pub long_n : length ns ≡ natives
  pub few : m ≤ natives
  pub small : (i : ℕ) → at rs i < 4 ^ q
  pub blanked : (i : ℕ) → blank q (at rs i) ≡ at rs i
  pub native_below : (i : ℕ) → at ns i < natives

-- the first m of ns are the rotations among the first k natives, ascending, and the first m of rs are their strings, blanked
pub record Packed (q : ℕ) (f : ℕ → ℕ) (rs ns : List ℕ) (m k : ℕ) : Type 0 where
  pub rotations : Blanked q rs ns m
  pub chosen : Chosen (is_rotation q f) (at ns) m k
  pub strings : (i : ℕ) → i < m → at rs i ≡ blank q (f (at ns i))
