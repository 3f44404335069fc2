-- Vectors modulo 2 as words: entry j is binary digit j. A matrix is six words, its rows or its columns; 1 is the first unit vector, and
-- the first row of a product is 1 taken through the rows of the factors. Assumes nothing.
use Rattle.std.specs.Prelude.{List, ◌≡◌, ℕ, zero, suc, ◌+◌, ◌*◌, ◌/◌, ◌%◌, ◌^◌, ◌<◌, ◌≤◌, length}
use Rattle.std.specs.Int.Bits.{bit_xor}
use Rattle.bicycle_common.specs.Automorphisms.{opposite}
use Rattle.pauli_string.specs.Strings.{bit}
use Rattle.native_measurement.specs.Natives.{bases_at}
use Rattle.measurement.specs.Matrices.{side, Matrix, of_rows}
use Rattle.measurement.specs.Measures.{packed, placed_by}
use Rattle.natives.specs.Arrays.{at}

-- f 0 xor .. xor f (n - 1)
unfoldable pub xors : ℕ → (ℕ → ℕ) → ℕ
xors zero f = 0
xors (suc n) f = bit_xor (xors n f) (f n)

-- the words R k for which digit k of v is 1, added modulo 2
unfoldable pub combined : ℕ → (ℕ → ℕ) → ℕ → ℕ
combined s R v = xors s (λ (k : ℕ). bit v k * R k)

-- v taken through R, n times
unfoldable pub iterated : ℕ → (ℕ → ℕ) → ℕ → ℕ → ℕ
iterated s R v zero = v
iterated s R v (suc n) = combined s R (iterated s R v n)

-- the words R 0, .., R (s - 1) added modulo 2 in each way: sum j has those that j names by its digits
abbrev pub Sums : ℕ → (ℕ → ℕ) → List ℕ → Type 0
Sums s R l = (length l ≡ 2 ^ s) × ((j : ℕ) → j < 2 ^ s → at l j ≡ combined s R j)

-- sums of three words of the side
abbrev pub SmallSums : List ℕ → Type 0
SmallSums l = (length l ≡ 8) × ((j : ℕ) → j < 8 → at l j < 2 ^ side)

-- v taken through a matrix by the sums of its first three words and of its last three, and so t times
abbrev pub stepped : List ℕ → List ℕ → ℕ → ℕ
stepped lo hi v = bit_xor (at lo (v % 8)) (at hi (v / 8))

unfoldable pub walked : List ℕ → List ℕ → ℕ → ℕ → ℕ
walked lo hi v zero = v
walked lo hi v (suc t) = stepped lo hi (walked lo hi v t)

-- the matrix of which r holds the rows, and of which r holds the columns
abbrev pub of_row_words : List ℕ → Matrix
of_row_words r i j = bit (at r i) j

abbrev pub of_column_words : List ℕ → Matrix
of_column_words r i j = bit (at r j) i

-- r holds words of as many digits as the side
abbrev pub Words : List ℕ → Type 0
Words r = (k : ℕ) → k < side → at r k < 2 ^ side

-- word k of bytes, whose digit j is the byte at line * k + step * j: row k of a matrix by rows if these are 6 and 1, column k if 1 and 6
abbrev pub word_at : ℕ → ℕ → List ℕ → ℕ → ℕ
word_at line step m k = packed side (λ (j : ℕ). at m (line * k + step * j))

-- all these bytes are there, and none is over 1
pub record Lines (line step : ℕ) (m : List ℕ) : Type 0 where
  pub there : (k j : ℕ) → k < side → j < side → line * k + step * j < length m
  pub binary : (k j : ℕ) → k < side → j < side → at m (line * k + step * j) ≤ 1

-- 1 taken through p i times, then through q j times; a grid of these; and that its cells are words
unfoldable pub cell : List ℕ → List ℕ → ℕ → ℕ → ℕ
cell p q i j = iterated side (at q) (iterated side (at p) 1 i) j

abbrev pub GridOf : List ℕ → List ℕ → List (List ℕ) → Type 0
GridOf p q g = (i j : ℕ) → i < side → j < side → of_rows g i j ≡ cell p q i j

abbrev pub SmallCells : List (List ℕ) → Type 0
SmallCells g = (i j : ℕ) → i < side → j < side → of_rows g i j < 2 ^ side

-- ---- strings

-- the string of pair k of letters, of which c is the column and w the row
abbrev pub word_string : ℕ → ℕ → ℕ → ℕ
word_string c w k = placed_by side c w (bases_at k)

-- the column and the row of automorphism a, by a grid of columns and a grid of rows; the column is that of its inverse
abbrev pub grid_column : List (List ℕ) → ℕ → ℕ
grid_column cs a = of_rows cs (opposite (a % 6)) (opposite (a / 6))

abbrev pub grid_row : List (List ℕ) → ℕ → ℕ
grid_row rs a = of_rows rs (a / 6) (a % 6)

-- the string of native n, by these
unfoldable pub grid_string : List (List ℕ) → List (List ℕ) → ℕ → ℕ
grid_string cs rs n = word_string (grid_column cs (n / 15)) (grid_row rs (n / 15)) (n % 15)
