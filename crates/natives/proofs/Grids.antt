-- The grids of packed rows and columns give the natives' strings: cell (x, y) of the rows is the first row of A(x,y), cell (y, x) of the
-- columns is its first column. Assumes nothing.
use mathlib.Core.List.{List}
use mathlib.Core.Bool.{true}
use mathlib.Core.Path.{◌≡◌, refl, ap, ap₂, ◌∙◌}
use Prim.Native.Nat.{ℕ, ◌+◌, ◌-◌, ◌*◌, ◌/◌, ◌%◌, ◌^◌, ◌<◌}
use native.Mathlib.Omega.{arith}
use lib.ListN.{length}
use Rattle.bicycle_common.specs.declared.AutomorphismData.{AutomorphismData}
use Rattle.bicycle_common.specs.Letters.{x_of, z_of}
use Rattle.bicycle_common.specs.Automorphisms.{component, of_pair, opposite, inverse}
use Rattle.bicycle_common.specs.Ranges.{sum}
use Rattle.bicycle_common.proofs.Letters.{digit_x, digit_z}
use Rattle.pauli_string.specs.Strings.{bit}
use Rattle.native_measurement.specs.Natives.{natives, of_rank, native_of, bases_at}
use Rattle.measurement.specs.Matrices.{side, Matrix, of_bytes, is_bytes, one, mul, pow, Binary, Same}
use Rattle.measurement.specs.Measures.{action, packed, placed, placed_by, measured, native_string}
use Rattle.measurement.proofs.Matrices.{mul_binary, one_binary, pow_binary, mul_same, action_same, packed_same, packed_lt}
use Rattle.measurement.proofs.Letters.{bit_packed}
use Rattle.measurement.proofs.Strings.{bytes_good}
use Rattle.measurement.proofs.Algebra.{one_left, product_turned}
use Rattle.natives.specs.Arrays.{at}
use Rattle.natives.specs.Packed.{iterated, of_row_words, of_column_words, Words, word_at, Lines, cell, GridOf, SmallCells, word_string, grid_string}
use Rattle.natives.proofs.Words.{bit_le, iterated_lt, row_iterated}

-- ---- cells are words

pub cell_lt : (p q : List ℕ) → Words p → Words q → (i j : ℕ) → cell p q i j < 2 ^ side
unfolding cell
cell_lt p q hp hq i j = iterated_lt 6 (at q) _ hq (iterated_lt 6 (at p) 1 hp (omega arith) i) j

pub cells_small : (p q : List ℕ) (g : List (List ℕ)) → Words p → Words q → GridOf p q g → SmallCells g
cells_small p q g hp hq h i j hi hj = rw (h i j hi hj) (cell_lt p q hp hq i j)

-- ---- cells are rows and columns

one_row : 1 ≡ packed 6 (λ (j : ℕ). one 0 j)
unfolding packed sum one
one_row = refl

six : 0 < 6
six = omega arith

-- A(x,y) for components that are reduced
abbrev act : Matrix → Matrix → ℕ → ℕ → Matrix
act a b x y = mul 6 (pow 6 a x) (pow 6 b y)

row_cell : (p q : List ℕ) → Words p → Words q → (x y : ℕ) → cell p q x y ≡ packed 6 (λ (j : ℕ). act (of_row_words p) (of_row_words q) x y 0 j)
unfolding cell
row_cell p q hp hq x y =
    ap (λ (v : ℕ). iterated 6 (at q) (iterated 6 (at p) v x) y) one_row
    ∙ ap (λ (v : ℕ). iterated 6 (at q) v y) (row_iterated 6 six (at p) hp one (one_binary 6) x)
    ∙ row_iterated 6 six (at q) hq (mul 6 one (pow 6 (of_row_words p) x)) (mul_binary 6 one (pow 6 (of_row_words p) x)) y
    ∙ packed_same 6 (λ j l. mul_same 6 (one_left 6 (pow 6 (of_row_words p) x) (pow_binary 6 (of_row_words p) x)) (λ i k hi hk. refl) 0 j six l)

columns_binary : (r : List ℕ) → Binary 6 (of_column_words r)
columns_binary r i k hi hk = bit_le (at r k) i

-- the columns are the rows of the transpose, whose product has the last factor first
column_cell : (p q : List ℕ) → Words p → Words q → (x y : ℕ)
    → cell q p y x ≡ packed 6 (λ (i : ℕ). act (of_column_words p) (of_column_words q) x y i 0)
column_cell p q hp hq x y =
    row_cell q p hq hp y x
    ∙ packed_same 6 (λ i l. product_turned 6 (of_column_words p) (of_column_words q) (columns_binary p) (columns_binary q) x y 0 i six l)

-- ---- strings

reduced : (m : ℕ) → m % 6 % 6 ≡ m % 6
reduced m = omega arith

opposite_lt : (x : ℕ) → opposite x < 6
opposite_lt x = omega arith

-- the components of automorphism m, and of its inverse
first_component : (m : ℕ) → m < 36 → component (component (m / 6)) ≡ m / 6
first_component m h = omega arith

second_component : (m : ℕ) → component (component (m % 6)) ≡ m % 6
second_component m = omega arith

inverse_component : (x : ℕ) → component (opposite (component x)) ≡ opposite x
inverse_component x = reduced (6 - x % 6 % 6) ∙ ap (λ (t : ℕ). (6 - t) % 6) (reduced x)

action_at : (s : ℕ) (a b : Matrix) (t : AutomorphismData) (x y i k : ℕ) → component t.x ≡ x → component t.y ≡ y
    → mul s (pow s a x) (pow s b y) i k ≡ action s a b t i k
unfolding action
action_at s a b t x y i k ex ey = rw (ex, ey)

-- the four grids' words of two matrices
pub record WordsOf (a b : Matrix) (rx ry cx cy : List ℕ) : Type 0 where
  pub rows_x : Words rx × Same side (of_row_words rx) a
  pub rows_y : Words ry × Same side (of_row_words ry) b
  pub columns_x : Words cx × Same side (of_column_words cx) a
  pub columns_y : Words cy × Same side (of_column_words cy) b

module _ (a b : Matrix) (rx ry cx cy : List ℕ) (w : WordsOf a b rx ry cx cy) where
  row_of : (t : AutomorphismData) (x y : ℕ) → component t.x ≡ x → component t.y ≡ y
      → cell rx ry x y ≡ packed 6 (λ (j : ℕ). action 6 a b t 0 j)
  row_of t x y ex ey =
      row_cell rx ry w.rows_x.0 w.rows_y.0 x y
      ∙ packed_same 6 (λ j l.
      action_at 6 (of_row_words rx) (of_row_words ry) t x y 0 j ex ey ∙ action_same 6 w.rows_x.1 w.rows_y.1 t 0 j six l)

  column_of : (t : AutomorphismData) (x y : ℕ) → component t.x ≡ x → component t.y ≡ y
      → cell cy cx y x ≡ packed 6 (λ (i : ℕ). action 6 a b t i 0)
  column_of t x y ex ey =
      column_cell cx cy w.columns_x.0 w.columns_y.0 x y
      ∙ packed_same 6 (λ i l.
      action_at 6 (of_column_words cx) (of_column_words cy) t x y i 0 ex ey ∙ action_same 6 w.columns_x.1 w.columns_y.1 t i 0 l six)

  -- a native's string by its two cells
  cell_native : (n : ℕ) → n < natives
      → word_string (cell cy cx (opposite (n / 15 % 6)) (opposite (n / 15 / 6))) (cell rx ry (n / 15 / 6) (n / 15 % 6)) (n % 15)
      ≡ native_string side a b n
  unfolding native_string measured native_of
  cell_native n h =
      let t = of_pair (n / 15 / 6) (n / 15 % 6) in
      ap₂ (λ (u v : ℕ). placed_by 6 u v (bases_at (n % 15)))
      (column_of (inverse t) _ _ (inverse_component (n / 15 / 6)) (inverse_component (n / 15 % 6)))
      (row_of t _ _ (first_component (n / 15) (omega arith)) (second_component (n / 15)))

  -- the strings of the grids are the natives' strings
  pub grid_native : (cs rs : List (List ℕ)) → GridOf cy cx cs → GridOf rx ry rs → (n : ℕ) → n < natives → grid_string cs rs n ≡ native_string side a b n
  unfolding grid_string
  grid_native cs rs hc hr n h =
      ap₂ (λ (u v : ℕ). word_string u v (n % 15))
      (hc (opposite (n / 15 % 6)) (opposite (n / 15 / 6)) (opposite_lt (n / 15 % 6)) (opposite_lt (n / 15 / 6)))
      (hr (n / 15 / 6) (n / 15 % 6) (omega arith) (omega arith))
      ∙ cell_native n h

-- ---- words of bytes, and the digits of two letters

pub place_in : (line step : ℕ) (m : List ℕ) (k j : ℕ) → Lines line step m → k < side → j < side → line * k + step * j < length m
place_in line step m k j h hk hj = h.there k j hk hj

row_place : (k j : ℕ) → 6 * k + 1 * j ≡ 6 * k + j
row_place k j = omega arith

column_place : (k j : ℕ) → 1 * k + 6 * j ≡ 6 * j + k
column_place k j = omega arith

module _ (m : List ℕ) (n : length m ≡ 36) (b : Binary 6 (of_bytes 6 m)) where
  row_lines : Lines 6 1 m
  row_lines = record { there = λ k j hk hj. omega arith; binary = λ k j hk hj. rw (row_place k j) (b k j hk hj) }

  column_lines : Lines 1 6 m
  column_lines = record { there = λ k j hk hj. omega arith; binary = λ k j hk hj. rw (column_place k j) (b j k hj hk) }

pub bytes_rows : (m : List ℕ) → is_bytes 6 m ≡ true → Lines 6 1 m
bytes_rows m t = let g = bytes_good 6 m t in row_lines m g.0 g.1

pub bytes_columns : (m : List ℕ) → is_bytes 6 m ≡ true → Lines 1 6 m
bytes_columns m t = let g = bytes_good 6 m t in column_lines m g.0 g.1

-- words of bytes are words, and their digits are the bytes
module _ (line step : ℕ) (m : List ℕ) (h : Lines line step m) (r : List ℕ) (e : (k : ℕ) → k < 6 → at r k ≡ word_at line step m k) where
  pub words_lt : Words r
  words_lt k l = rw (e k l) (packed_lt 6 _ (λ j q. h.binary k j l q))

  pub words_bit : (k j : ℕ) → k < 6 → j < 6 → bit (at r k) j ≡ at m (line * k + step * j)
  words_bit k j l q = ap (λ (n : ℕ). bit n j) (e k l) ∙ bit_packed 6 (λ i. at m (line * k + step * i)) (λ i p. h.binary k i l p) j q

-- the rows and the columns of a matrix of bytes
module _ (m : List ℕ) (r : List ℕ) where
  pub rows_are : Lines 6 1 m → ((k : ℕ) → k < 6 → at r k ≡ word_at 6 1 m k) → Same 6 (of_row_words r) (of_bytes 6 m)
  rows_are h e i k hi hk = words_bit 6 1 m h r e i k hi hk ∙ ap (at m) (row_place i k)

  pub columns_are : Lines 1 6 m → ((k : ℕ) → k < 6 → at r k ≡ word_at 1 6 m k) → Same 6 (of_column_words r) (of_bytes 6 m)
  columns_are h e i k hi hk = words_bit 1 6 m h r e k i hk hi ∙ ap (at m) (column_place k i)

letter_digits : (r : ℕ) → r < 4 → (x_of (of_rank r) ≡ r % 2) × (z_of (of_rank r) ≡ r / 2)
letter_digits r h = (digit_x (r % 2) (r / 2) (omega arith) (omega arith), digit_z (r % 2) (r / 2) (omega arith) (omega arith))

pub place_digits : (c w k : ℕ) → k < 15
    → placed side c w ((k + 1) / 4 % 2) ((k + 1) / 4 / 2) ((k + 1) % 4 % 2) ((k + 1) % 4 / 2) ≡ word_string c w k
place_digits c w k h =
    let a = letter_digits ((k + 1) / 4) (omega arith) in
    let b = letter_digits ((k + 1) % 4) (omega arith) in
    rw (a.0, a.1, b.0, b.1)
