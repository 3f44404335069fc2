-- A table meets the rule at every index exactly when its values, as labels of the graph of strings, meet the local rules of a shortest
-- labelling and index 0 holds 541. A native string is told from another by the number kept for it. Assumes nothing.
use mathlib.Core.Path.{◌≡◌, sym, ap, subst, ◌∙◌}
use mathlib.Core.Bool.{true, cond, and-eq-true_iff}
use mathlib.Core.Logic.{◌⊎◌, inl, inr, ⊎_elim}
use Prim.Native.Nat.{ℕ, ◌+◌, ◌-◌, ◌^◌, ◌≤◌, ◌<◌}
use native.Mathlib.Nat.{le_antisymm}
use native.Mathlib.Omega.{arith, by_contra}
use native.Mathlib.Decide.{ℕ_discrete, dec_lt}
use lib.Dec.{eqb, ltb}
use borrow.Author.Tests.{lt-ltb, eq-eqb, ne_eqb}
use Rattle.pauli_string.specs.Strings.{has_pivot}
use Rattle.native_measurement.specs.Natives.{natives}
use Rattle.natives.specs.Kept.{kept, kept_for, Keeper}
use Rattle.natives.proofs.Kept.{keeper_for, kept_for_string, kept_sound}
use Rattle.shortest.specs.Graphs.{Has, Made, Rules, steps}
use Rattle.table.specs.Entries.{depth, field, Names, identity, KeptFor, Rotation, leads, valid}
use Rattle.table.specs.Rules.{NoNative, Deep, Without, Rule}
use Rattle.table.specs.Plans.{Nonzero, Base, graph, values}

-- ---- which native is kept for a string

-- the keeper of a native is kept for its string
pub kept_for_law : (f : ℕ → ℕ) (p n : ℕ) → n < natives → f n ≡ p → KeptFor f p (kept_for f p)
kept_for_law f p n h e = subst (λ (x : ℕ). KeptFor f x (kept_for f x)) e (go (keeper_for f n h))
  where
    go : Keeper f n (kept_for f (f n)) → KeptFor f (f n) (kept_for f (f n))
    go k = record { below = k.below; is_kept = k.is_kept; measures = k.same }

pub kept_one : (f : ℕ → ℕ) (p m n : ℕ) → KeptFor f p m → KeptFor f p n → m ≡ n
kept_one f p m n a b =
    le_antisymm
    (by_contra m n (λ l. kept_sound f n b.is_kept m l a.below (a.measures ∙ sym b.measures)))
    (by_contra n m (λ l. kept_sound f m a.is_kept n l b.below (b.measures ∙ sym a.measures)))

-- a string is measured by some native, or by none
pub native_or_none : (f : ℕ → ℕ) (p : ℕ) → ((n : ℕ) × KeptFor f p n) ⊎ NoNative f p
native_or_none f p = elim (dec_lt (kept_for f p) natives) [
  | yes l ↦ inl (kept_for f p, kept_for_law f p (kept_for f p) l (kept_for_string f p l))
  | no g ↦ inr (λ n h e. g (kept_for_law f p n h e).below)
]

none_kept : (f : ℕ → ℕ) (p : ℕ) → ((n : ℕ) → KeptFor f p n → ⊥) → NoNative f p
none_kept f p h n l e = h (kept_for f p) (kept_for_law f p n l e)

-- ---- values

-- a value that names a native is not 0
names_some : (v n : ℕ) → Names v n → v ≡ 0 → ⊥
names_some v n h z = omega arith

module _ (q : ℕ) (f : ℕ → ℕ) (small : (n : ℕ) → f n < 4 ^ q) (e : ℕ → ℕ) where
  -- ---- from the rule of every index to the local rules

  module _ (ok : (p : ℕ) → p < 4 ^ q → Rule q f e p) where
    native_entry : (p n : ℕ) → Base q f p n → (depth (e p) ≡ 0) × Names (e p) n
    native_entry p n b = (ok p b.string.below).native_string_law b.string.some n b.keeps

    -- a string of depth above 0 is no native
    pub deep_none : (p : ℕ) → Nonzero q p → 1 ≤ depth (e p) → NoNative f p
    deep_none p i l = none_kept f p (λ n k. omega (arith, (native_entry p n (record { string = i; keeps = k })).0))

    rule_near : (p n : ℕ) → Nonzero q p → Rotation q f n → Has e (leads q f p n) → Has e p × (depth (e p) ≤ depth (e (leads q f p n)) + 1)
    rule_near p n i r h = (some, by_contra (depth (e p)) (depth (e (leads q f p n)) + 1) (λ l. far l))
      where
        some : Has e p
        some z = h (((ok p i.below).without i.some z).alone n r)

        far : depth (e (leads q f p n)) + 1 < depth (e p) → ⊥
        far l = ((ok p i.below).other i.some (deep_none p i (omega arith)) some).no_shorter n r h (omega arith)

    rule_made : (p : ℕ) → Nonzero q p → Has e p → Made (graph q f small) (steps (graph q f small)) values e p
    rule_made p i h = ⊎_elim (λ (m : (n : ℕ) × KeptFor f p n). base m) (λ (none : NoNative f p). deep none) (native_or_none f p)
      where
        base : (n : ℕ) × KeptFor f p n → Made (graph q f small) (steps (graph q f small)) values e p
        base m =
            let b : Base q f p m.0 = record { string = i; keeps = m.1 } in
            (m.0, (native_entry p m.0 b).1, inl (b, (native_entry p m.0 b).0))

        deep : NoNative f p → Made (graph q f small) (steps (graph q f small)) values e p
        deep none =
            let d = (ok p i.below).other i.some none h in
            let n = d.down.0 in
            let w = d.down.1 in
            (n, w.named, inr (w.rotation, w.has, omega (arith, d.positive, w.less)))

    pub rules : Rules (graph q f small) (steps (graph q f small)) values e
    rules = record {
      source = λ p n b. (names_some (e p) n (native_entry p n b).1, omega (arith, (native_entry p n b).0));
      near = rule_near;
      made = rule_made;
    }

  -- ---- and back

  module _ (first : e 0 ≡ identity) (R : Rules (graph q f small) (steps (graph q f small)) values e) where
    -- what a native string's value names is kept for it
    native_named : (p n : ℕ) → Nonzero q p → KeptFor f p n → (depth (e p) ≡ 0) × Names (e p) n
    native_named p n i k = go (R.source p n b) (R.made p i (R.source p n b).0)
      where
        b : Base q f p n
        b = record { string = i; keeps = k }

        go : Has e p × (depth (e p) ≤ 0) → Made (graph q f small) (steps (graph q f small)) values e p → (depth (e p) ≡ 0) × Names (e p) n
        go h m =
            ⊎_elim
            (λ s. (s.1, subst (Names (e p)) (kept_one f p m.0 n s.0.keeps k) m.1))
            (λ s. absurd (omega (arith, h.1, s.2)))
            m.2

    other_deep : (p : ℕ) → Nonzero q p → NoNative f p → Has e p → Deep q f e p
    other_deep p i none h = ⊎_elim
        (λ s. absurd (none m.0 s.0.keeps.below s.0.keeps.measures))
        (λ s. record {
          positive = omega (arith, s.2);
          down = (m.0, record { rotation = s.0; named = m.1; has = s.1; less = omega (arith, s.2) });
          no_shorter = λ n r g l. omega (arith, (R.near p n i r g).1);
        })
        m.2
      where
        m : Made (graph q f small) (steps (graph q f small)) values e p
        m = R.made p i h

    without_alone : (p : ℕ) → Nonzero q p → e p ≡ 0 → Without q f e p
    without_alone p i z = record {
      no_native = none_kept f p (λ n k. (R.source p n (record { string = i; keeps = k })).0 z);
      alone = λ n r. elim (ℕ_discrete (e (leads q f p n)) 0) [ yes w ↦ w | no g ↦ absurd ((R.near p n i r g).0 z) ];
    }

    pub rule : (p : ℕ) → p < 4 ^ q → Rule q f e p
    rule p h = record {
      first = λ z. ap e z ∙ first;
      native_string_law = λ s n k. native_named p n (record { below = h; some = s }) k;
      other = λ s none g. other_deep p (record { below = h; some = s }) none g;
      without = λ s z. without_alone p (record { below = h; some = s }) z;
    }

-- ---- valid entries

-- a value that names a kept native n, whose string is p at depth 0 and has pivot support above it
valid_named : (q : ℕ) (f : ℕ → ℕ) (v p n : ℕ) → Names v n → n < natives → kept f n ≡ true
    → cond (eqb (depth v) 0) (eqb (f n) p) (has_pivot q (f n)) ≡ true → valid q f v p ≡ true
valid_named q f v p n h l k e =
    let low : ltb 0 (field v) ≡ true = lt-ltb 0 (field v) (omega arith) in
    let high : ltb (field v) (natives + 1) ≡ true = lt-ltb (field v) (natives + 1) (omega arith) in
    let z : field v - 1 ≡ n = omega arith in
    rw (low, high, z, k) e

-- where the rule holds, an entry is valid
pub rule_valid : (q : ℕ) (f e : ℕ → ℕ) (p : ℕ) → Rule q f e p → (p ≡ 0 → ⊥) → Has e p → valid q f (e p) p ≡ true
rule_valid q f e p r some h = ⊎_elim (λ (m : (n : ℕ) × KeptFor f p n). base m) (λ (none : NoNative f p). deep (r.other some none h)) (native_or_none f p)
  where
    base : (n : ℕ) × KeptFor f p n → valid q f (e p) p ≡ true
    base m =
        let w = r.native_string_law some m.0 m.1 in
        let k = m.1 in
        valid_named q f (e p) p m.0 w.1 k.below k.is_kept (rw (eq-eqb (depth (e p)) 0 w.0) (eq-eqb (f m.0) p k.measures))

    deep : Deep q f e p → valid q f (e p) p ≡ true
    deep d =
        let n = d.down.0 in
        let w = d.down.1 in
        let ks = and-eq-true_iff (kept f n) (has_pivot q (f n)) in
        let positive : depth (e p) ≡ 0 → ⊥ = λ z. omega (arith, d.positive) in
        valid_named q f (e p) p n w.named w.rotation.below (ks.0 w.rotation.is_rotation_law).0
        (rw (ne_eqb (depth (e p)) 0 positive) (ks.0 w.rotation.is_rotation_law).1)
