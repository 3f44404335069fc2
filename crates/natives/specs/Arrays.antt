-- The arrays of a pair's natives. Assumes nothing.
use Rattle.std.specs.Prelude.{Bool, List, ◌≡◌, ℕ, ◌^◌, ◌<◌, get_or, length}
use Rattle.bicycle_common.specs.Ranges.{listed}
use Rattle.native_measurement.specs.Natives.{natives}
use Rattle.measurement.specs.Matrices.{side, Matrix}
use Rattle.measurement.specs.Measures.{native_string}
use Rattle.natives.specs.Kept.{kept}

-- what an array holds at an index
abbrev pub at : List ℕ → ℕ → ℕ
at l i = get_or l i 0

-- the string of each native
abbrev pub strings : Matrix → Matrix → List ℕ
strings mx my = listed (native_string side mx my) natives

-- a list of the natives' strings, of q letters, as many as there are natives; behind them a list reads as 0
pub record Held (q : ℕ) (l : List ℕ) : Type 0 where
  pub long : length l ≡ natives
  pub small : (i : ℕ) → at l i < 4 ^ q

-- the kept flag of each native, of which f gives the strings
abbrev pub flags : (ℕ → ℕ) → List Bool
flags f = listed (kept f) natives
