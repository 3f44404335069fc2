-- What packed rotations move a string to. Assumes nothing.
use Rattle.std.specs.Prelude.{List, ◌≡◌, ℕ, ◌+◌, ◌%◌, ◌≤◌, ◌<◌, length}
use Rattle.std.specs.Int.Bits.{bit_and}
use Rattle.std.specs.Int.Count.{ones}
use Rattle.pauli_string.specs.Strings.{rotate}
use Rattle.native_measurement.specs.Natives.{natives}
use Rattle.natives.specs.Arrays.{at}

-- two arrays to work in
pub record Scratch (xs gs : List ℕ) : Type 0 where
  pub long_x : length xs ≡ natives
  pub long_g : length gs ≡ natives

-- the first k of xs and gs are what the first i rotations lead p to, in order, and their numbers; only those that lead p to itself are left out
pub data Led (q p : ℕ) (rs ns xs gs : List ℕ) : ℕ → ℕ → Type 0 where
  none : Led q p rs ns xs gs 0 0
  stays : {k i : ℕ} → Led q p rs ns xs gs k i → rotate q p (at rs i) ≡ p → Led q p rs ns xs gs k (i + 1)
  moves : {k i : ℕ} → Led q p rs ns xs gs k i → at xs k ≡ rotate q p (at rs i) → at gs k ≡ at ns i → Led q p rs ns xs gs (k + 1) (i + 1)

-- the same in arrays that are still to work in, with a front that is no longer than what was looked at
pub record Gathered (q p : ℕ) (rs ns : List ℕ) (i : ℕ) (xs gs : List ℕ) (k : ℕ) : Type 0 where
  pub scratch : Scratch xs gs
  pub front : k ≤ i
  pub led : Led q p rs ns xs gs k i

-- of the rotations from i up to m, gs tells which have an odd number of ones in common with t
abbrev pub Odds : ℕ → List ℕ → ℕ → ℕ → List ℕ → Type 0
Odds t rs i m gs = (j : ℕ) → i ≤ j → j < m → at gs j ≡ ones (bit_and t (at rs j)) % 2
