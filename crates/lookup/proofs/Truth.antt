-- What a lookup answers is a true plan, on any table: going down a walk and then up by its rotations ends where it began, because a rotation
-- undoes itself. Assumes nothing.
use mathlib.Core.Path.{◌≡◌, refl, sym, ap, ◌∙◌}
use mathlib.Core.Bool.{Bool, true, cond, ◌&&◌}
use mathlib.Core.List.{List}
use Prim.Native.Nat.{ℕ, zero, suc, ◌+◌, ◌-◌, ◌≤◌, ◌<◌}
use native.Mathlib.Omega.{arith}
use lib.Dec.{eqb}
use borrow.Author.Tests.{eqb-true, eq-eqb, ne_eqb}
use Rattle.bicycle_common.specs.Ranges.{list_from}
use Rattle.bicycle_common.proofs.Ranges.{length_from}
use Rattle.pauli_string.specs.Strings.{has_pivot}
use Rattle.pauli_string.proofs.Pivot.{rotate_rotate}
use Rattle.measurement.specs.Measures.{pair_string}
use Rattle.table.specs.Bytes.{entry}
use Rattle.table.specs.Entries.{depth, KeptFor, Rotation, leads, named}
use Rattle.table.specs.Plans.{applied, All}
use Rattle.lookup.specs.Walks.{next, down, good, bottom, rotation_at, winner}
use Rattle.lookup.specs.Answers.{planned, looked_up}
use Rattle.lookup.specs.Truth.{Truly}
use Rattle.lookup.proofs.Walks.{Valid, stands_valid, good_at}
use Rattle.lookup.proofs.Cases.{sought_case, looked_up_case}

-- ---- a good walk is a plan

all_from : (P : ℕ → Type 0) (g : ℕ → ℕ) (i k : ℕ) → ((j : ℕ) → j < i + k → P (g j)) → All P (list_from g i k)
unfolding list_from
all_from P g i zero h = tt
all_from P g i (suc k) h = (h i (omega arith), all_from P g (suc i) k (λ j l. h j (omega arith)))

module _ (q : ℕ) (f e : ℕ → ℕ) (p : ℕ) where
  -- up from place m by the rotations from place i on
  upward : (m i : ℕ) → i + m ≡ depth (e p) → applied q f (down q f e p m) (list_from (rotation_at q f e p) i m) ≡ p
  unfolding list_from down next
  upward zero i z = refl
  upward (suc m) i z =
      let x = down q f e p m in
      let w : depth (e p) - 1 - i ≡ m = omega arith in
      let back : leads q f (leads q f x (named (e x))) (rotation_at q f e p i) ≡ x =
      ap (λ (k : ℕ). leads q f (leads q f x (named (e x))) (named (e (down q f e p k)))) w ∙ rotate_rotate q x (f (named (e x))) in
      ap (λ (y : ℕ). applied q f y (list_from (rotation_at q f e p) (suc i) m)) back ∙ upward m (suc i) (omega arith)

  module _ (g : good q f e p ≡ true) where
    place : (k : ℕ) → k ≤ depth (e p) → Valid q f (e (down q f e p k)) (depth (e p) - k) (down q f e p k)
    place k l = stands_valid q f (e (down q f e p k)) (depth (e p) - k) (down q f e p k) (good_at q f e p g k l)

    at_end : KeptFor f (bottom q f e p) (named (e (bottom q f e p)))
    at_end =
        let d = depth (e p) in
        let v = place d (omega arith) in
        let z : d - d ≡ 0 = omega arith in
        let fits : cond (eqb (d - d) 0) (eqb (f (named (e (bottom q f e p)))) (bottom q f e p)) (has_pivot q (f (named (e (bottom q f e p))))) ≡ true = v.fits in
        record {
          below = v.below;
          is_kept = v.is_kept;
          measures = eqb-true (f (named (e (bottom q f e p)))) (bottom q f e p) (sym (ap (λ (b : Bool). cond b (eqb (f (named (e (bottom q f e p)))) (bottom q f e p)) (has_pivot q (f (named (e (bottom q f e p)))))) (eq-eqb (d - d) 0 z)) ∙ fits);
        }

    above_end : (i : ℕ) → i < depth (e p) → Rotation q f (rotation_at q f e p i)
    above_end i l =
        let k = depth (e p) - 1 - i in
        let n = named (e (down q f e p k)) in
        let v = place k (omega arith) in
        let pivot : has_pivot q (f n) ≡ true =
        sym (ap (λ (b : Bool). cond b (eqb (f n) (down q f e p k)) (has_pivot q (f n))) (ne_eqb (depth (e p) - k) 0 (λ z. omega arith))) ∙ v.fits in
        record { below = v.below; is_rotation_law = ap (λ (b : Bool). b && has_pivot q (f n)) v.is_kept ∙ pivot }

    implemented : Truly q f p (planned q f e p)
    implemented = record {
      measures = refl;
      base_kept = at_end;
      counted = sym (length_from (rotation_at q f e p) 0 (depth (e p)));
      turns = all_from (Rotation q f) (rotation_at q f e p) 0 (depth (e p)) (λ j l. above_end j (omega arith));
      gives = upward (depth (e p)) 0 (omega arith);
    }

-- what a lookup answers, of whichever string it is, on any table
pub looked_up_true : (any : Bool) (q s : ℕ) (t mx my : List ℕ) (p room : ℕ)
    → Truly q (pair_string s mx my) (winner any q (entry t) p) (looked_up any q s t mx my p room)
looked_up_true any q s t mx my p room =
    let f = pair_string s mx my in
    let w = winner any q (entry t) p in
    looked_up_case (Truly q f w) (λ r. tt) any q s t mx my p room (sought_case (Truly q f w) (λ r. tt) q f (entry t) any p room (λ g l. implemented q f (entry t) w g))
