-- The cell of an automorphism: the string of the pair of letters (Y,Y), which has the column twice and the row twice. The mask of a pair of
-- letters shows of it the string of that pair. Assumes nothing.
use Rattle.std.specs.Prelude.{List, count_by, drop, ◌≡◌, ◌==◌, ℕ, ◌+◌, ◌*◌, ◌/◌, ◌%◌, ◌^◌, ◌<◌, ◌≤◌, length}
use Rattle.std.specs.Int.Bits.{bit_and}
use Rattle.measurement.specs.Matrices.{side}
use Rattle.natives.specs.Arrays.{at}
use Rattle.natives.specs.Packed.{word_string, grid_column, grid_row}

-- the cell with column c and row w
abbrev pub spread : ℕ → ℕ → ℕ
spread c w = word_string c w 14

-- what pair k of letters shows
unfoldable pub mask : ℕ → ℕ
mask k = word_string 63 63 k

abbrev pub masked : (ℕ → ℕ) → ℕ → ℕ → ℕ
masked f m a = bit_and (f a) m

-- the string of native n by the cells l
unfoldable pub shown : List ℕ → ℕ → ℕ
shown l n = masked (at l) (mask (n % 15)) (n / 15)

-- of 36 cells no column and no row is 0
pub record Full (f : ℕ → ℕ) : Type 0 where
  pub columns : (a : ℕ) → a < 36 → masked f (mask 3) a ≡ 0 → ⊥
  pub rows : (a : ℕ) → a < 36 → masked f (mask 7) a ≡ 0 → ⊥

-- l holds the cells f, all with a mark s, which is 0 only where no column and no row is
pub record Marked (f : ℕ → ℕ) (l : List ℕ) : Type 0 where
  pub long : length l ≡ 36
  pub s : ℕ
  pub cells : (a : ℕ) → a < 36 → at l a ≡ f a + 16777216 * s
  pub full : s ≡ 0 → Full f

-- the column, the row and the mark of a cell
abbrev pub column : ℕ → ℕ
column v = v % 2 ^ side

abbrev pub row : ℕ → ℕ
row v = v / 4096 % 2 ^ side

abbrev pub mark : ℕ → ℕ
mark v = v / 16777216

-- 36 cells; where one is unmarked, no column and no row is 0
pub record Spread (l : List ℕ) : Type 0 where
  pub long : length l ≡ 36
  pub words : (a : ℕ) → a < 36 → at l a ≡ spread (column (at l a)) (row (at l a)) + 16777216 * mark (at l a)
  pub full : (a : ℕ) → a < 36 → at l a < 16777216 → Full (at l)

-- the cell of automorphism a by a grid of columns and a grid of rows
unfoldable pub grid_cell : List (List ℕ) → List (List ℕ) → ℕ → ℕ
grid_cell cs rs a = spread (grid_column cs a) (grid_row rs a)

-- ---- filled block by block

-- l, of length n, holds f in its first a blocks of b numbers
abbrev pub Upto : ℕ → ℕ → (ℕ → ℕ) → ℕ → List ℕ → Type 0
Upto b n f a l = (length l ≡ n) × ((i : ℕ) → i < b * a → at l i ≡ f i)

-- block a of b numbers is written, and those before it stay
pub record Block (b a : ℕ) (f : ℕ → ℕ) (l m : List ℕ) : Type 0 where
  pub size : length m ≡ length l
  pub stays : (i : ℕ) → i < b * a → at m i ≡ at l i
  pub here : (k : ℕ) → k < b → at m (b * a + k) ≡ f k

-- ---- which are kept

-- of the cells l from some one on that is not behind a, one shows to the mask m what cell a shows
abbrev pub Alone : List ℕ → ℕ → ℕ → Type 0
Alone l m a = (from : ℕ) × (from ≤ a) × (count_by (λ (c : ℕ). bit_and c m == bit_and (at l a) m) (drop from l) ≡ 1)
