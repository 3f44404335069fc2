-- What keeps a search in range: a vertex without a label leaves room among all labels and among those of its class, and a discovery keeps
-- the counts. By comparing sums term by term. Assumes nothing.
use mathlib.Core.Bool.{Bool, not}
use mathlib.Core.Logic.{⊎_elim}
use mathlib.Core.Path.{◌≡◌, refl, sym, ap, subst, ◌∙◌}
use Prim.Native.Nat.{ℕ, ◌+◌, ◌≤◌, ◌<◌}
use native.Mathlib.Decide.{ℕ_discrete}
use native.Mathlib.Omega.{arith}
use lib.Dec.{eqb}
use borrow.Author.Tests.{eq-eqb, ne_eqb}
use Rattle.bicycle_common.specs.Letters.{flag}
use Rattle.bicycle_common.proofs.Letters.{flag_le}
use Rattle.bicycle_common.proofs.Ranges.{sum_next, sum_zero, sum_mono, sum_le, sum_less, sum_more, sum_lacks}
use Rattle.shortest.specs.Graphs.{Has}
use Rattle.shortest.specs.Search.{Found}
use Rattle.shortest.specs.Counts.{Classes, labelled, entries_in, in_class, Counted}
use Rattle.shortest.proofs.Search.{stays_has, found_has, queue_cases}

-- ---- one label

pub labelled_le : (e : ℕ → ℕ) (p : ℕ) → labelled e p ≤ 1
labelled_le e p = flag_le (not (eqb (e p) 0))

pub labelled_none : (e : ℕ → ℕ) (p : ℕ) → e p ≡ 0 → labelled e p ≡ 0
labelled_none e p z = ap (λ (b : Bool). flag (not b)) (eq-eqb (e p) 0 z)

pub labelled_some : (e : ℕ → ℕ) (p : ℕ) → Has e p → labelled e p ≡ 1
labelled_some e p h = ap (λ (b : Bool). flag (not b)) (ne_eqb (e p) 0 h)

-- ---- counted one by one

pub entries_none : (e : ℕ → ℕ) → entries_in e 0 ≡ 0
unfolding entries_in
entries_none e = sum_zero 0 (λ (p : ℕ). labelled e p) (λ p l. absurd (omega arith))

pub entries_next : (e : ℕ → ℕ) (n : ℕ) → entries_in e (n + 1) ≡ entries_in e n + labelled e n
unfolding entries_in
entries_next e n = sum_next n (λ (p : ℕ). labelled e p)

-- ---- bounds

pub entries_below : (e : ℕ → ℕ) (n : ℕ) → entries_in e n ≤ n
unfolding entries_in
entries_below e n = sum_le n (λ (p : ℕ). labelled e p) (λ p l. labelled_le e p)

pub class_below : (K : Classes) (e : ℕ → ℕ) (c : ℕ) → in_class K e c ≤ K.size
unfolding in_class
class_below K e c = sum_le K.size (λ (i : ℕ). labelled e (K.mem c i)) (λ i l. labelled_le e (K.mem c i))

-- a vertex without a label leaves room for one more, among all and in its class
module _ (K : Classes) (e : ℕ → ℕ) (x : ℕ) (small : x < K.total) (fresh : e x ≡ 0) where
  pub room : entries_in e K.total < K.total
  unfolding entries_in
  room = sum_lacks K.total (λ (p : ℕ). labelled e p) x small (λ p l. labelled_le e p) (labelled_none e x fresh)

  pub class_room : in_class K e (K.cls x) < K.size
  unfolding in_class
  class_room =
      sum_lacks K.size (λ (i : ℕ). labelled e (K.mem (K.cls x) i)) (K.ix x) (K.ix_small x small)
      (λ i l. labelled_le e (K.mem (K.cls x) i))
      (labelled_none e (K.mem (K.cls x) (K.ix x)) (ap e (K.mem_ix x small) ∙ fresh))

-- ---- a discovery

module _ (K : Classes) (e q : ℕ → ℕ) (c : ℕ) (e' q' : ℕ → ℕ) (c' x v : ℕ) (f : Found e q c e' q' c' x v) where
  label_new : labelled e x + 1 ≡ labelled e' x
  label_new = omega (arith, labelled_none e x f.fresh, labelled_some e' x (found_has e q c e' q' c' x v f))

  label_old : (p : ℕ) → (p ≡ x → ⊥) → labelled e p ≡ labelled e' p
  label_old p g = ap (λ (w : ℕ). flag (not (eqb w 0))) (sym (f.there p g))

  label_grows : (p : ℕ) → labelled e p ≤ labelled e' p
  label_grows p = elim (ℕ_discrete p x) [
    | yes z ↦ subst (λ (p : ℕ). labelled e p ≤ labelled e' p) (sym z) (omega (arith, label_new))
    | no g ↦ omega (arith, label_old p g)
  ]

  pub class_grows : (k : ℕ) → in_class K e k ≤ in_class K e' k
  unfolding in_class
  class_grows k =
      sum_mono K.size (λ (i : ℕ). labelled e (K.mem k i)) (λ (i : ℕ). labelled e' (K.mem k i)) (λ i l. label_grows (K.mem k i))

  module _ (small : x < K.total) where
    pub entries_more : entries_in e K.total + 1 ≡ entries_in e' K.total
    unfolding entries_in
    entries_more = sum_more K.total (λ (p : ℕ). labelled e p) (λ (p : ℕ). labelled e' p) x small label_old label_new

    pub class_more : in_class K e (K.cls x) < in_class K e' (K.cls x)
    unfolding in_class
    class_more =
        sum_less K.size (λ (i : ℕ). labelled e (K.mem (K.cls x) i)) (λ (i : ℕ). labelled e' (K.mem (K.cls x) i))
        (K.ix x) (K.ix_small x small) (λ i l. label_grows (K.mem (K.cls x) i))
        (subst (λ (p : ℕ). labelled e p < labelled e' p) (sym (K.mem_ix x small)) (omega (arith, label_new)))

    deep_more : (cost : ℕ → ℕ) → cost v ≤ in_class K e (K.cls x) → ((p : ℕ) → p < K.total → Has e p → cost (e p) < in_class K e (K.cls p))
        → (p : ℕ) → p < K.total → Has e' p → cost (e' p) < in_class K e' (K.cls p)
    deep_more cost d h p l g = elim (ℕ_discrete p x) [
      | yes z ↦ subst (λ (p : ℕ). cost (e' p) < in_class K e' (K.cls p)) (sym z) (omega (arith, class_more, ap cost f.here))
      | no n ↦
          let w : e' p ≡ e p = f.there p n in
          omega (arith, ap cost w, h p l (λ z. g (w ∙ z)), class_grows (K.cls p))
    ]

-- a discovery keeps the counts where its cost is at most the number of labels that its class had
pub counted_more : (K : Classes) (cost e q : ℕ → ℕ) (c : ℕ) (e' q' : ℕ → ℕ) (c' x v : ℕ) → Found e q c e' q' c' x v → x < K.total
    → cost v ≤ in_class K e (K.cls x) → Counted K cost e q c → Counted K cost e' q' c'
counted_more K cost e q c e' q' c' x v f small d s = record {
  counted = omega (arith, f.count, s.counted, entries_more K e q c e' q' c' x v f small);
  listed = λ i h. ⊎_elim
      (λ l.
      let o = s.listed i l.0 in
      subst (λ (p : ℕ). (p < K.total) × Has e' p) (sym l.1) (o.0, stays_has e q c e' q' c' x v f (q i) o.1))
      (λ l. subst (λ (p : ℕ). (p < K.total) × Has e' p) (sym l.1) (small, found_has e q c e' q' c' x v f))
      (queue_cases e q c e' q' c' x v f i h);
  deep = deep_more K e q c e' q' c' x v f small cost d s.deep;
}

-- the start: number 0 alone has a label, and the queue is empty
pub counted_start : (K : Classes) (cost e e' q : ℕ → ℕ) (v : ℕ) → ((p : ℕ) → e p ≡ 0) → e' 0 ≡ v → (v ≡ 0 → ⊥) → cost v ≡ 0
    → ((p : ℕ) → (p ≡ 0 → ⊥) → e' p ≡ e p) → 0 < K.total → Counted K cost e' q 0
counted_start K cost e e' q v none here some free there l = record {
  counted = omega (arith, no_entries, entries_more K e q 0 e' (λ i. 0) 1 0 v f l);
  listed = λ i h. absurd (omega arith);
  deep = deep_more K e q 0 e' (λ i. 0) 1 0 v f l cost (omega (arith, free)) (λ p h g. absurd (g (none p)));
}
  where
    -- as if 0 had been discovered
    f : Found e q 0 e' (λ i. 0) 1 0 v
    f = record { fresh = none 0; some = some; count = refl; last = refl; older = λ i h. absurd (omega arith); here = here; there = there }

    no_entries : entries_in e K.total ≡ 0
    no_entries = unfold entries_in in sum_zero K.total (λ (p : ℕ). labelled e p) (λ p h. labelled_none e p (none p))

-- no cost passes the size of a class
pub shallow : (K : Classes) (cost e q : ℕ → ℕ) (c : ℕ) → Counted K cost e q c → (p : ℕ) → p < K.total → Has e p → cost (e p) < K.size
shallow K cost e q c s p l h = omega (arith, s.deep p l h, class_below K e (K.cls p))
