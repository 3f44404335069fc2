-- The rule reads the strings of the natives alone: where two functions agree on these, the one's rule is the other's. Assumes nothing.
use mathlib.Core.Bool.{Bool, ◌&&◌}
use mathlib.Core.Path.{◌≡◌, sym, ap, ap₂, subst, ◌∙◌}
use Prim.Native.Nat.{ℕ, ◌-◌, ◌<◌}
use Rattle.pauli_string.specs.Strings.{has_pivot, rotate}
use Rattle.native_measurement.specs.Natives.{natives}
use Rattle.natives.proofs.Kept.{kept_same}
use Rattle.table.specs.Entries.{depth, KeptFor, Rotation, leads}
use Rattle.table.specs.Rules.{NoNative, Down, Deep, Without, Rule}
use Rattle.table_check.specs.Tests.{Stops}

-- f and g give the same strings
abbrev Agree : (ℕ → ℕ) → (ℕ → ℕ) → Type 0
Agree f g = (n : ℕ) → n < natives → f n ≡ g n

swapped : (f g : ℕ → ℕ) → Agree f g → Agree g f
swapped f g h n l = sym (h n l)

-- ---- natives and rotations

module _ (q : ℕ) (f g : ℕ → ℕ) (h : Agree f g) where
  kept_for_same : (p n : ℕ) → KeptFor f p n → KeptFor g p n
  kept_for_same p n k = record {
    below = k.below;
    is_kept = sym (kept_same f g h n k.below) ∙ k.is_kept;
    measures = sym (h n k.below) ∙ k.measures;
  }

  none_same : (p : ℕ) → NoNative f p → NoNative g p
  none_same p none n l z = none n l (h n l ∙ z)

  rotation_same : (n : ℕ) → Rotation q f n → Rotation q g n
  rotation_same n r = record {
    below = r.below;
    is_rotation_law = ap₂ (λ (b : Bool) (x : ℕ). b && has_pivot q x) (sym (kept_same f g h n r.below)) (sym (h n r.below)) ∙ r.is_rotation_law;
  }

  leads_same : (p n : ℕ) → n < natives → leads q f p n ≡ leads q g p n
  leads_same p n l = ap (rotate q p) (h n l)

-- ---- the rule

module _ (q : ℕ) (f g : ℕ → ℕ) (h : Agree f g) (e : ℕ → ℕ) where
  -- what f's rotations lead to, g's do
  led : (P : ℕ → Type 0) (p n : ℕ) → n < natives → P (e (leads q f p n)) → P (e (leads q g p n))
  led P p n l = subst (λ (x : ℕ). P (e x)) (leads_same q f g h p n l)

  leads_back : (P : ℕ → Type 0) (p n : ℕ) → n < natives → P (e (leads q g p n)) → P (e (leads q f p n))
  leads_back P p n l = subst (λ (x : ℕ). P (e x)) (sym (leads_same q f g h p n l))

  down_same : (p n : ℕ) → Down q f e p n → Down q g e p n
  down_same p n d = record {
    rotation = rotation_same q f g h n d.rotation;
    named = d.named;
    has = led (λ (w : ℕ). w ≡ 0 → ⊥) p n d.rotation.below d.has;
    less = led (λ (w : ℕ). depth w ≡ depth (e p) - 1) p n d.rotation.below d.less;
  }

  deep_same : (p : ℕ) → Deep q f e p → Deep q g e p
  deep_same p d = record {
    positive = d.positive;
    down = (d.down.0, down_same p d.down.0 d.down.1);
    no_shorter = λ n r has l.
        d.no_shorter n (rotation_same q g f (swapped f g h) n r)
        (leads_back (λ (w : ℕ). w ≡ 0 → ⊥) p n r.below has)
        (leads_back (λ (w : ℕ). depth w < depth (e p) - 1) p n r.below l);
  }

  without_same : (p : ℕ) → Without q f e p → Without q g e p
  without_same p w = record {
    no_native = none_same q f g h p w.no_native;
    alone = λ n r. led (λ (w : ℕ). w ≡ 0) p n r.below (w.alone n (rotation_same q g f (swapped f g h) n r));
  }

  rule_same : (p : ℕ) → Rule q f e p → Rule q g e p
  rule_same p r = record {
    first = r.first;
    native_string_law = λ s n k. r.native_string_law s n (kept_for_same q g f (swapped f g h) p n k);
    other = λ s none has. deep_same p (r.other s (none_same q g f (swapped f g h) p none) has);
    without = λ s z. without_same p (r.without s z);
  }

pub stops_same : (q : ℕ) (f g : ℕ → ℕ) → ((n : ℕ) → n < natives → f n ≡ g n) → (e : ℕ → ℕ) (r : ℕ) → Stops q f e r → Stops q g e r
stops_same q f g h e r s = record {
  within = s.within;
  meets = λ p l. rule_same q f g h e p (s.meets p l);
  breaks = λ l m. s.breaks l (rule_same q g f (swapped f g h) e r m);
}
