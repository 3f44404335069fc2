-- Cells and masks: what a mask shows of a cell is the string of its letters; where no column and no row is 0, equal strings have equal
-- letters, so that a native whose cell alone shows its string is kept. Assumes nothing.
use mathlib.Core.List.{List}
use mathlib.Core.Logic.{⊎_elim}
use mathlib.Core.Bool.{Bool, true}
use mathlib.Core.Path.{◌≡◌, refl, sym, ap, ap₂, ◌∙◌}
use Prim.Native.Nat.{ℕ, zero, suc, ◌+◌, ◌-◌, ◌*◌, ◌/◌, ◌%◌, ◌^◌, ◌<◌, ◌≤◌}
use native.Mathlib.Nat.{mul-add, mul-one}
use native.Mathlib.Omega.{arith}
use lib.Bits.{bit_and, and_block, and_mask, and_zero_r, and_le_r}
use lib.ListN.{length, get_or, set, drop}
use borrow.Author.Tests.{eq-eqb}
use Rattle.std.specs.Prelude.{◌==◌}
use Rattle.std.proofs.lemmas.List.{get_or-drop, length-drop}
use Rattle.bicycle_common.specs.declared.TwoBases.{TwoBases}
use Rattle.bicycle_common.specs.Letters.{x_of, z_of}
use Rattle.bicycle_common.proofs.Ranges.{lt_or_ge, stored_at}
use Rattle.bicycle_common.proofs.Letters.{x_of_lt, z_of_lt}
use Rattle.native_measurement.specs.Natives.{natives, bases_at}
use Rattle.measurement.specs.Matrices.{side, of_rows}
use Rattle.measurement.specs.Measures.{placed}
use Rattle.natives.specs.Arrays.{at}
use Rattle.natives.specs.Kept.{kept}
use Rattle.natives.specs.Packed.{SmallCells, word_string, grid_column, grid_row, grid_string}
use Rattle.natives.specs.Cells.{spread, mask, column, row, mark, shown, Full, Marked, Spread, grid_cell, Upto, Block, Alone}
use Rattle.natives.proofs.Grids.{place_digits}
use Rattle.natives.proofs.Chains.{one_there}
use Rattle.natives.proofs.Kept.{kept_complete}

-- ---- what a mask shows

digit_masked : (c x : ℕ) → c < 64 → x < 2 → bit_and c (63 * x) ≡ c * x
digit_masked c zero h l = let e : 0 ≡ c * 0 = omega arith in and_zero_r c ∙ e
digit_masked c (suc zero) h l = let e : c % 64 ≡ c * 1 = omega arith in and_mask c 6 ∙ e
digit_masked c (suc (suc x)) h l = absurd (omega arith)

-- one word, with digit x on the first half and y on the second
apart : (c x y : ℕ) → x < 2 → y < 2 → c * (x + 64 * y) ≡ c * y * 64 + c * x
apart c zero zero h k = omega arith
apart c zero (suc zero) h k = omega arith
apart c (suc zero) zero h k = omega arith
apart c (suc zero) (suc zero) h k = omega arith
apart c (suc (suc x)) y h k = absurd (omega arith)
apart c zero (suc (suc y)) h k = absurd (omega arith)
apart c (suc zero) (suc (suc y)) h k = absurd (omega arith)

word_masked : (c x y : ℕ) → c < 64 → x < 2 → y < 2 → bit_and (c * 65) (63 * (x + 64 * y)) ≡ c * (x + 64 * y)
word_masked c x y h hx hy =
    let a : c * 65 ≡ c * 64 + c = omega arith in
    let b : 63 * (x + 64 * y) ≡ 63 * y * 64 + 63 * x = omega arith in
    ap₂ bit_and a b
    ∙ and_block 6 c (63 * y) c (63 * x) h (omega arith)
    ∙ ap₂ (λ (u v : ℕ). u * 64 + v) (digit_masked c y h hy) (digit_masked c x h hx)
    ∙ sym (apart c x y hx hy)

placed_masked : (c w x1 z1 x7 z7 : ℕ) → c < 64 → w < 64 → x1 < 2 → z1 < 2 → x7 < 2 → z7 < 2
    → bit_and (placed 6 c w 1 1 1 1) (placed 6 63 63 x1 z1 x7 z7) ≡ placed 6 c w x1 z1 x7 z7
unfolding placed
placed_masked c w x1 z1 x7 z7 hc hw a b d e =
    let f : c * 65 + 4096 * (w * 65) ≡ w * 65 * 4096 + c * 65 = omega arith in
    let g : 63 * (x1 + 64 * x7) + 4096 * (63 * (z1 + 64 * z7)) ≡ 63 * (z1 + 64 * z7) * 4096 + 63 * (x1 + 64 * x7) = omega arith in
    let h : w * (z1 + 64 * z7) * 4096 + c * (x1 + 64 * x7) ≡ c * (x1 + 64 * x7) + 4096 * (w * (z1 + 64 * z7)) = omega arith in
    ap₂ bit_and f g
    ∙ and_block 12 (w * 65) (63 * (z1 + 64 * z7)) (c * 65) (63 * (x1 + 64 * x7)) (omega arith) (omega arith)
    ∙ ap₂ (λ (u v : ℕ). u * 4096 + v) (word_masked w z1 z7 hw b e) (word_masked c x1 x7 hc a d)
    ∙ h

pub spread_masked : (c w k : ℕ) → c < 64 → w < 64 → bit_and (spread c w) (mask k) ≡ word_string c w k
unfolding mask
spread_masked c w k hc hw =
    let b : TwoBases = bases_at k in
    placed_masked c w (x_of b.p1) (z_of b.p1) (x_of b.p7) (z_of b.p7) hc hw (x_of_lt b.p1) (z_of_lt b.p1) (x_of_lt b.p7) (z_of_lt b.p7)

-- strings are below 4 ^ 12
mask_lt : (k : ℕ) → mask k < 4 ^ 12
unfolding mask placed
mask_lt k =
    let b : TwoBases = bases_at k in
    omega (arith, x_of_lt b.p1, z_of_lt b.p1, x_of_lt b.p7, z_of_lt b.p7)

spread_lt : (c w : ℕ) → c < 64 → w < 64 → spread c w < 4 ^ 12
unfolding placed
spread_lt c w hc hw = omega arith

pub shown_lt : (l : List ℕ) (n : ℕ) → shown l n < 4 ^ 12
unfolding shown
shown_lt l n = omega (arith, and_le_r (at l (n / 15)) (mask (n % 15)), mask_lt (n % 15))

-- a mark is not shown
pub marked_masked : (c w s k : ℕ) → c < 64 → w < 64 → bit_and (spread c w + 16777216 * s) (mask k) ≡ word_string c w k
marked_masked c w s k hc hw =
    let a : spread c w + 16777216 * s ≡ s * 16777216 + spread c w = omega arith in
    let b : mask k ≡ 0 * 16777216 + mask k = omega arith in
    let d : 0 * 16777216 + word_string c w k ≡ word_string c w k = omega arith in
    ap₂ bit_and a b
    ∙ and_block 24 s 0 (spread c w) (mask k) (spread_lt c w hc hw) (mask_lt k)
    ∙ ap₂ (λ (u v : ℕ). u * 16777216 + v) (and_zero_r s) (spread_masked c w k hc hw)
    ∙ d

-- a cell is the spread of its own column and row, with its mark
pub spread_again : (c w s : ℕ) → c < 64 → w < 64 → let v = spread c w + 16777216 * s in v ≡ spread (column v) (row v) + 16777216 * mark v
unfolding placed
spread_again c w s hc hw = omega arith

-- ---- the cells of two grids

-- the code writes the components of the inverse without reducing them first
pub cell_at : (cs rs : List (List ℕ)) (x y : ℕ) → x < 6 → y < 6 → spread (of_rows cs ((6 - y) % 6) ((6 - x) % 6)) (of_rows rs x y) ≡ grid_cell cs rs (6 * x + y)
unfolding grid_cell
cell_at cs rs x y hx hy =
    let a : (6 * x + y) / 6 ≡ x = omega arith in
    let b : (6 * x + y) % 6 ≡ y = omega arith in
    let i : x % 6 ≡ x = omega arith in
    let j : y % 6 ≡ y = omega arith in
    rw (a, b, i, j)

module _ (cs rs : List (List ℕ)) (hc : SmallCells cs) (hr : SmallCells rs) where
  column_lt : (a : ℕ) → grid_column cs a < 2 ^ side
  column_lt a = hc _ _ (omega arith) (omega arith)

  row_lt : (a : ℕ) → a < 36 → grid_row rs a < 2 ^ side
  row_lt a h = hr _ _ (omega arith) (omega arith)

  pub grid_lt : (a : ℕ) → a < 36 → grid_cell cs rs a < 4 ^ 12
  unfolding grid_cell
  grid_lt a h = spread_lt _ _ (column_lt a) (row_lt a h)

  -- cells that are marked show what the grids have
  module _ (f : ℕ → ℕ) (e : (a : ℕ) → a < 36 → f a ≡ grid_cell cs rs a) (l : List ℕ) (m : Marked f l) where
    cell_of : (a : ℕ) → a < 36 → at l a ≡ grid_cell cs rs a + 16777216 * m.s
    cell_of a h = m.cells a h ∙ ap (λ (v : ℕ). v + 16777216 * m.s) (e a h)

    shown_at : (k a : ℕ) → a < 36 → bit_and (at l a) (mask k) ≡ bit_and (f a) (mask k)
    unfolding grid_cell
    shown_at k a h =
        ap (λ (v : ℕ). bit_and v (mask k)) (cell_of a h)
        ∙ marked_masked _ _ m.s k (column_lt a) (row_lt a h)
        ∙ sym (spread_masked _ _ k (column_lt a) (row_lt a h))
        ∙ ap (λ (v : ℕ). bit_and v (mask k)) (sym (e a h))

    pub cells_spread : Spread l
    unfolding grid_cell
    cells_spread = record {
      long = m.long;
      words = λ a h. rw (cell_of a h) (spread_again (grid_column cs a) (grid_row rs a) m.s (column_lt a) (row_lt a h));
      full = λ a h l. full_here (m.full (omega (arith, cell_of a h, l)));
    }
      where
        full_here : Full f → Full (at l)
        full_here g = record {
          columns = λ a h z. g.columns a h (sym (shown_at 3 a h) ∙ z);
          rows = λ a h z. g.rows a h (sym (shown_at 7 a h) ∙ z);
        }

    pub shown_grid : (n : ℕ) → n < natives → shown l n ≡ grid_string cs rs n
    unfolding shown grid_cell grid_string
    shown_grid n h =
        ap (λ (v : ℕ). bit_and v (mask (n % 15))) (cell_of (n / 15) (omega arith))
        ∙ marked_masked _ _ m.s (n % 15) (column_lt (n / 15)) (row_lt (n / 15) (omega arith))

-- ---- one block after another

-- what is written at each place from b on
pub stored_from : {A : Type 0} (P : ℕ → A → Type 0) (l : List A) (d : A) (b k : ℕ) (v : A) → b + k < length l
    → ((t : ℕ) → t < k → P t (get_or l (b + t) d)) → P k v → (t : ℕ) → t < k + 1 → P t (get_or (set l (b + k) v) (b + t) d)
stored_from P l d b k v hk h p t ht =
    stored_at (P t) l d (b + t) (b + k) v hk (λ e. let q : t ≡ k = omega arith in rw q p) (λ e. h t (omega arith))

pub block_more : (b n a : ℕ) (f g : ℕ → ℕ) (l m : List ℕ) → 0 < b → ((k : ℕ) → k < b → g k ≡ f (b * a + k))
    → Block b a g l m → Upto b n f a l → Upto b n f (a + 1) m
block_more b n a f g l m pos e w u = (
  w.size ∙ u.0,
  λ i h. ⊎_elim
      (λ (q : i < b * a). w.stays i q ∙ u.1 i q)
      (λ (q : b * a ≤ i).
      let next : b * (a + 1) ≡ b * a + b = mul-add b a 1 ∙ ap (λ (x : ℕ). b * a + x) (mul-one b) in
      let p : b * a + (i - b * a) ≡ i = omega arith in
      let k : i - b * a < b = omega (arith, next, h) in
      ap (at m) (sym p) ∙ w.here (i - b * a) k ∙ e (i - b * a) k ∙ ap f p)
      (lt_or_ge i (b * a)),
)

-- the strings of automorphism a
pub block_shown : (l : List ℕ) (a k : ℕ) → k < 15 → bit_and (at l a) (mask k) ≡ shown l (15 * a + k)
unfolding shown
block_shown l a k h =
    let d : (15 * a + k) / 15 ≡ a = omega arith in
    let r : (15 * a + k) % 15 ≡ k = omega arith in
    rw (d, r)

-- ---- equal strings

digit_same : (c d x y : ℕ) → 0 < c → 0 < d → x < 2 → y < 2 → c * x ≡ d * y → x ≡ y
digit_same c d zero zero hc hd hx hy e = refl
digit_same c d zero (suc zero) hc hd hx hy e = absurd (omega arith)
digit_same c d (suc zero) zero hc hd hx hy e = absurd (omega arith)
digit_same c d (suc zero) (suc zero) hc hd hx hy e = refl
digit_same c d (suc (suc x)) y hc hd hx hy e = absurd (omega arith)
digit_same c d zero (suc (suc y)) hc hd hx hy e = absurd (omega arith)
digit_same c d (suc zero) (suc (suc y)) hc hd hx hy e = absurd (omega arith)

digit_lt : (c x : ℕ) → c < 64 → x < 2 → c * x < 64
digit_lt c zero h l = omega arith
digit_lt c (suc zero) h l = omega arith
digit_lt c (suc (suc x)) h l = absurd (omega arith)

-- four blocks of six digits
blocks_same : (a b c d e f g h : ℕ) → a < 64 → b < 64 → c < 64 → d < 64 → e < 64 → f < 64 → g < 64 → h < 64
    → b * 64 + a + 4096 * (d * 64 + c) ≡ f * 64 + e + 4096 * (h * 64 + g) → (a ≡ e) × (b ≡ f) × (c ≡ g) × (d ≡ h)
blocks_same a b c d e f g h ha hb hc hd he hf hg hh q = (omega arith, omega arith, omega arith, omega arith)

-- the digits of the letters that a string has, where the words are not 0
module _ (c w c' w' : ℕ) (hc : c < 64) (hw : w < 64) (hc' : c' < 64) (hw' : w' < 64) (pc : 0 < c) (pw : 0 < w) (pc' : 0 < c') (pw' : 0 < w') where
  digits_same : (x1 z1 x7 z7 y1 u1 y7 u7 : ℕ) → x1 < 2 → z1 < 2 → x7 < 2 → z7 < 2 → y1 < 2 → u1 < 2 → y7 < 2 → u7 < 2
      → placed 6 c w x1 z1 x7 z7 ≡ placed 6 c' w' y1 u1 y7 u7 → (x1 ≡ y1) × (z1 ≡ u1) × (x7 ≡ y7) × (z7 ≡ u7)
  unfolding placed
  digits_same x1 z1 x7 z7 y1 u1 y7 u7 a b d e a' b' d' e' q =
      let s =
      blocks_same (c * x1) (c * x7) (w * z1) (w * z7) (c' * y1) (c' * y7) (w' * u1) (w' * u7)
      (digit_lt c x1 hc a) (digit_lt c x7 hc d) (digit_lt w z1 hw b) (digit_lt w z7 hw e)
      (digit_lt c' y1 hc' a') (digit_lt c' y7 hc' d') (digit_lt w' u1 hw' b') (digit_lt w' u7 hw' e')
      (sym (ap₂ (λ (u v : ℕ). u + 4096 * v) (apart c x1 x7 a d) (apart w z1 z7 b e)) ∙ q ∙ ap₂ (λ (u v : ℕ). u + 4096 * v) (apart c' y1 y7 a' d') (apart w' u1 u7 b' e'))
      in (
        digit_same c c' x1 y1 pc pc' a a' s.0,
        digit_same w w' z1 u1 pw pw' b b' s.2,
        digit_same c c' x7 y7 pc pc' d d' s.1,
        digit_same w w' z7 u7 pw pw' e e' s.3,
      )

  pub letters_same : (k j : ℕ) → k < 15 → j < 15 → word_string c w k ≡ word_string c' w' j → k ≡ j
  letters_same k j hk hj q =
      let s =
      digits_same ((k + 1) / 4 % 2) ((k + 1) / 4 / 2) ((k + 1) % 4 % 2) ((k + 1) % 4 / 2) ((j + 1) / 4 % 2) ((j + 1) / 4 / 2) ((j + 1) % 4 % 2) ((j + 1) % 4 / 2)
      (omega arith) (omega arith) (omega arith) (omega arith) (omega arith) (omega arith) (omega arith) (omega arith)
      (place_digits c w k hk ∙ q ∙ sym (place_digits c' w' j hj))
      in omega (arith, s.0, s.1, s.2, s.3)

-- ---- a native that is kept

-- a column and a row are not 0 where (X,I) and (Z,I) show something
no_column : (w : ℕ) → word_string 0 w 3 ≡ 0
unfolding placed
no_column w = omega arith

no_row : (c : ℕ) → word_string c 0 7 ≡ 0
unfolding placed
no_row c = omega arith

column_some : (c w : ℕ) → (word_string c w 3 ≡ 0 → ⊥) → 0 < c
column_some zero w h = absurd (h (no_column w))
column_some (suc c) w h = omega arith

row_some : (c w : ℕ) → (word_string c w 7 ≡ 0 → ⊥) → 0 < w
row_some c zero h = absurd (h (no_row c))
row_some c (suc w) h = omega arith

module _ (l : List ℕ) (s : Spread l) (n : ℕ) (hn : n < natives) (bare : at l (n / 15) < 16777216) where
  abbrev WordsOf : ℕ → Type 0
  WordsOf a = (c : ℕ) × (w : ℕ) × (c < 64) × (w < 64) × (0 < c) × (0 < w) × ((k : ℕ) → bit_and (at l a) (mask k) ≡ word_string c w k)

  full : Full (at l)
  full = s.full (n / 15) (omega arith) bare

  words_of : (a : ℕ) → a < 36 → WordsOf a
  words_of a h =
      let v = at l a in
      let e : (k : ℕ) → bit_and v (mask k) ≡ word_string (column v) (row v) k =
      λ k. ap (λ (x : ℕ). bit_and x (mask k)) (s.words a h) ∙ marked_masked (column v) (row v) (mark v) k (omega arith) (omega arith) in (
        column v,
        row v,
        omega arith,
        omega arith,
        column_some (column v) (row v) (λ z. full.columns a h (e 3 ∙ z)),
        row_some (column v) (row v) (λ z. full.rows a h (e 7 ∙ z)),
        e,
      )

  -- a native with the string of n has its letters
  letters_of : (m : ℕ) → m < natives → shown l m ≡ shown l n → m % 15 ≡ n % 15
  unfolding shown
  letters_of m hm e =
      let a = words_of (m / 15) (omega arith) in
      let b = words_of (n / 15) (omega arith) in
      letters_same a.0 a.1 b.0 b.1 a.2 a.3 b.2 b.3 a.4 a.5 b.4 b.5 (m % 15) (n % 15) (omega arith) (omega arith)
      (sym (a.6 (m % 15)) ∙ e ∙ b.6 (n % 15))

  module _ (o : Alone l (mask (n % 15)) (n / 15)) where
    clash : (m : ℕ) → n < m → m < natives → shown l m ≡ shown l n → m % 15 ≡ n % 15 → ⊥
    unfolding shown
    clash m h hm e k =
        let v = bit_and (at l (n / 15)) (mask (n % 15)) in
        let p : ℕ → Bool = λ c. bit_and c (mask (n % 15)) == v in
        let here : (a : ℕ) → o.0 ≤ a → bit_and (at l a) (mask (n % 15)) ≡ v → p (at (drop o.0 l) (a - o.0)) ≡ true =
        λ a g q. let f : o.0 + (a - o.0) ≡ a = omega arith in rw (get_or-drop o.0 l (a - o.0) 0, f) (eq-eqb _ _ q) in
        one_there p (drop o.0 l) o.2 (n / 15 - o.0) (m / 15 - o.0) (omega (arith, o.1)) (omega (arith, length-drop o.0 l, s.long))
        (here (n / 15) o.1 refl) (here (m / 15) (omega (arith, o.1)) (ap (λ (j : ℕ). bit_and (at l (m / 15)) (mask j)) (sym k) ∙ e))

    pub alone_kept : kept (shown l) n ≡ true
    alone_kept = kept_complete (shown l) n (λ m h hm e. clash m h hm e (letters_of m hm e))
