-- Loops that go down the walk: what they have at each place, the step to the next, and what a place tells of the walk. Assumes nothing.
use mathlib.Core.Path.{◌≡◌, refl, sym, ap, ap₂, subst, ◌∙◌}
use mathlib.Core.Bool.{true, false}
use mathlib.Core.List.{List}
use Prim.Native.Nat.{ℕ, ◌+◌, ◌-◌, ◌*◌, ◌/◌, ◌%◌, ◌≤◌, ◌<◌}
use native.Mathlib.Omega.{arith}
use lib.ListN.{length, set}
use lib.Seq.{length-sets}
use borrow.Author.Count.{below_more}
use Rattle.bicycle_common.specs.Ranges.{list_from}
use Rattle.native_measurement.specs.Natives.{natives}
use Rattle.table.specs.Entries.{depth, field, leads, named}
use Rattle.lookup.specs.Walks.{stands, down, good, rotation_at, sound}
use Rattle.lookup.specs.Answers.{two_bytes}
use Rattle.lookup.proofs.Walks.{Valid, stands_valid, At, down_none, down_step, good_at, good_not, good_last, sound_some}
use Rattle.lookup.proofs.Bytes.{written_from, written_none, written_more}

-- x, with the value v, is what a loop down the walk from p, of depth d, has with some rotations left
pub record Place (q : ℕ) (f e : ℕ → ℕ) (p d left x v : ℕ) : Type 0 where
  pub deep : d ≡ depth (e p)
  pub few : left ≤ d
  pub here : x ≡ down q f e p (d - left)
  pub value : v ≡ e x

-- every place before k stands
abbrev pub Stood : ℕ → (ℕ → ℕ) → (ℕ → ℕ) → ℕ → ℕ → Type 0
Stood q f e p k = (j : ℕ) → j < k → At q f e p j ≡ true

module _ {q : ℕ} {f e : ℕ → ℕ} {p : ℕ} where
  pub place_first : {d v : ℕ} → v ≡ e p → d ≡ depth (e p) → Place q f e p d d p v
  place_first {d} z s =
      let n : 0 ≡ d - d = omega arith in
      record { deep = s; few = omega arith; here = sym (down_none q f e p) ∙ ap (down q f e p) n; value = z }

  module _ {d left x v : ℕ} (a : Place q f e p d left x v) where
    -- its test is that of the place
    tested : stands q f v left x ≡ At q f e p (d - left)
    tested =
        let n : left ≡ depth (e p) - (d - left) = omega (arith, a.few, a.deep) in
        ap₂ (λ (w j : ℕ). stands q f w j x) a.value n ∙ ap (λ (y : ℕ). stands q f (e y) (depth (e p) - (d - left)) y) a.here

    -- where it stands, the value names a native
    pub place_valid : stands q f v left x ≡ true → Valid q f v left x
    place_valid = stands_valid q f v left x

    -- as it does everywhere on a good walk
    pub place_good : good q f e p ≡ true → Valid q f v left x
    place_good g = place_valid (tested ∙ good_at q f e p g (d - left) (omega (arith, a.few, a.deep)))

    -- where it does not stand, the walk is bad
    pub place_bad : stands q f v left x ≡ false → good q f e p ≡ false
    place_bad z = good_not q f e p (d - left) (omega (arith, a.few, a.deep)) (sym tested ∙ z)

    pub place_unsound : 0 < left → stands q f v left x ≡ false → sound q f e p ≡ false
    place_unsound l z = sound_some q f e p (λ n. omega (arith, a.few, a.deep)) ∙ place_bad z

    -- the last place decides where all before it stand
    pub place_last : left ≡ 0 → Stood q f e p (d - left) → stands q f v 0 x ≡ good q f e p
    place_last l s =
        let n : d - left ≡ depth (e p) = omega (arith, a.deep) in
        ap (λ (m : ℕ). stands q f v m x) (sym l) ∙ tested ∙ ap (At q f e p) n ∙ sym (good_last q f e p (λ j h. s j (omega (arith, n))))

    -- the step to the next place
    module _ (l : 0 < left) where
      lower : d - left + 1 ≡ d - (left - 1)
      lower = omega (arith, a.few)

      pub stood_next : Stood q f e p (d - left) → stands q f v left x ≡ true → Stood q f e p (d - (left - 1))
      stood_next s z = subst (Stood q f e p) lower (below_more (λ (j : ℕ). At q f e p j ≡ true) (d - left) s (sym tested ∙ z))

      pub place_next : {y : ℕ} → y ≡ leads q f x (named v) → {w : ℕ} → w ≡ e y → Place q f e p d (left - 1) y w
      place_next z h = record {
        deep = a.deep;
        few = omega (arith, a.few);
        here = z ∙ down_step q f e p x v (d - left) a.here a.value ∙ ap (down q f e p) lower;
        value = h;
      }

-- ---- a loop down a good walk that writes the natives of its rotations, from the last to the first

-- left of d rotations are still to be written, from x on; the others stand in the buffer behind them
pub record Writing (q : ℕ) (f e : ℕ → ℕ) (p d : ℕ) (before : List ℕ) (left x : ℕ) (out : List ℕ) : Type 0 where
  pub place : Place q f e p d left x (e x)
  pub written : out ≡ written_from (rotation_at q f e p) d left before

module _ {q : ℕ} {f e : ℕ → ℕ} {p d : ℕ} {before : List ℕ} where
  pub writing_first : d ≡ depth (e p) → Writing q f e p d before d p before
  writing_first s = record { place = place_first refl s; written = written_none (rotation_at q f e p) d before }

  module _ {left x : ℕ} {out : List ℕ} (a : Writing q f e p d before left x out) where
    -- the value that is read names a native
    pub writing_names : good q f e p ≡ true → {v : ℕ} → v ≡ e x → (0 < field v) × (named v < natives)
    writing_names g z =
        let w = place_good a.place g in
        subst (λ (v : ℕ). (0 < field v) × (named v < natives)) (sym z) (w.some, w.below)

    pub writing_long : length out ≡ length before
    writing_long = ap length a.written ∙ length-sets before (2 * left) (two_bytes (list_from (rotation_at q f e p) left (d - left)))

    pub writing_next : 0 < left → {v y : ℕ} {after : List ℕ} → v ≡ e x → y ≡ leads q f x (named v)
        → after ≡ set (set out (2 * (left - 1)) (named v % 256)) (2 * (left - 1) + 1) (named v / 256) → Writing q f e p d before (left - 1) y after
    writing_next h {v} {y} {after} z s w =
        let i = left - 1 in
        let back : left ≡ i + 1 = omega arith in
        let turn : d - left ≡ depth (e p) - 1 - i = omega (arith, a.place.few, a.place.deep) in
        let n : named v ≡ rotation_at q f e p i = ap named z ∙ ap (λ (t : ℕ). named (e t)) (a.place.here ∙ ap (down q f e p) turn) in
        record {
          place = place_next a.place h (s ∙ ap (λ (t : ℕ). leads q f x (named t)) z) refl;
          written = w
              ∙ ap (λ (l : List ℕ). set (set l (2 * i) (named v % 256)) (2 * i + 1) (named v / 256)) (a.written ∙ ap (λ (j : ℕ). written_from (rotation_at q f e p) d j before) back)
              ∙ written_more (rotation_at q f e p) d i (named v) before (omega (arith, a.place.few)) n;
        }
