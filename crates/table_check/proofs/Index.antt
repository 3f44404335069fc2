-- The tests at one index, with every rotation, are its rule, where a native's value is known to be right: then a value of 0, or of a depth
-- above 0, shows that the string is no native's. Assumes nothing.
use mathlib.Core.List.{List}
use mathlib.Core.Logic.{◌⊎◌, inl, inr, ⊎_elim, ◌↔◌}
use mathlib.Core.Path.{◌≡◌, sym, ap, subst, ◌∙◌}
use Prim.Native.Nat.{ℕ, ◌+◌, ◌-◌, ◌*◌, ◌^◌, ◌≤◌, ◌<◌}
use native.Mathlib.Omega.{arith}
use native.Mathlib.Decide.{ℕ_discrete, dec_lt}
use Rattle.std.proofs.Common.{length, take, All}
use Rattle.std.proofs.lemmas.List.{get_or-take, length-take, length-take-le}
use Rattle.std.proofs.lemmas.List.Elements.{All-get_or, All-from_get_or}
use Rattle.pauli_string.specs.Strings.{qubits, conj, rotate}
use Rattle.pauli_string.proofs.Commutation.{conj_lt}
use Rattle.native_measurement.specs.Natives.{natives}
use Rattle.natives.specs.Kept.{kept_for}
use Rattle.natives.specs.Arrays.{at}
use Rattle.shortest.specs.Graphs.{Has}
use Rattle.table.specs.Entries.{depth, Names, KeptFor, Rotation, leads}
use Rattle.table.specs.Rules.{NoNative, Deep, Rule}
use Rattle.table.proofs.Rules.{kept_for_law, native_or_none}
use Rattle.rotations.specs.declared.Rotations.{Rotations}
use Rattle.rotations.specs.Packed.{Packed}
use Rattle.rotations.proofs.Packed.{packed_each, packed_all}
use Rattle.table_check.specs.Tests.{Follows, gap, height, Neighbours, Low, Calm, Measured, Rooted, Right, Tested, Least, High, Blames}
use Rattle.table_check.proofs.Heights.{height_gap, height_entry, height_low}
use Rattle.table_check.proofs.Least.{least_same}

-- ---- where rotations lead

-- what is packed is followed
pub packed_follows : (q : ℕ) (f : ℕ → ℕ) (rs ns : List ℕ) (m : ℕ) → Packed q f rs ns m natives → Follows q f rs ns m
packed_follows q f rs ns m P = record {
  each = λ i l. let n = packed_each P i l in record { below = n.0; is_rotation_law = n.1 };
  all = λ n r none. let k = packed_all P n r.below r.is_rotation_law in none k.0 k.1 k.2;
  strings = P.strings;
}

-- a string conjugated with a string is one
pub neighbours_small : (r : Rotations) (p : ℕ) (xs : List ℕ) → Neighbours qubits p r.strings r.count xs → p < 4 ^ qubits → All (λ (x : ℕ). x < 4 ^ qubits) (take r.count xs)
neighbours_small r p xs N h = All-from_get_or (λ (x : ℕ). x < 4 ^ qubits) (take r.count xs) 0 (λ i w.
    let l : i < r.count = omega (arith, length-take r.count xs) in
    subst (λ (x : ℕ). x < 4 ^ qubits) (sym (get_or-take r.count xs i 0 l ∙ N i l)) (conj_lt qubits 24 p (at r.strings i) h (r.blanked.small i)))

module _ (r : Rotations) (p : ℕ) (xs : List ℕ) (long : length xs ≡ natives) (N : Neighbours qubits p r.strings r.count xs) where
  abbrev front : List ℕ
  front = take r.count xs

  front_long : length front ≡ r.count
  front_long = length-take-le r.count xs (omega (arith, r.blanked.few))

  front_at : (i : ℕ) → i < r.count → at front i ≡ conj qubits p (at r.strings i)
  front_at i l = get_or-take r.count xs i 0 l ∙ N i l

  module _ (f e : ℕ → ℕ) (F : Follows qubits f r.strings r.natives r.count) where
    -- what a packed rotation makes of p is where it leads
    neighbours_lead : (i : ℕ) → i < r.count → at front i ≡ leads qubits f p (at r.natives i)
    unfolding rotate
    neighbours_lead i l = front_at i l ∙ ap (conj qubits p) (F.strings i l)

    -- so these strings are where all rotations lead
    led : (n : ℕ) → Rotation qubits f n → ((i : ℕ) → i < r.count → at front i ≡ leads qubits f p n → ⊥) → ⊥
    led n t none = F.all n t (λ i l z. none i l (neighbours_lead i l ∙ ap (leads qubits f p) z))

    -- where none of them stands two or more below h, no rotation leads there
    pub still_calm : (h : ℕ) → 2 ≤ h → h ≤ gap → All (λ (x : ℕ). Low (1024 * (h - 2) + 1023) (e x) → ⊥) front ↔ Calm qubits f e p h
    still_calm h l g = (
      λ s n t w. led n t (λ i j z.
          All-get_or Quiet front i 0 (omega (arith, front_long)) s
          ((height_low h (e (at front i)) l g).1 (subst (λ (x : ℕ). height (e x) + 2 ≤ h) (sym z) w))),
      λ s. All-from_get_or Quiet front 0 (λ i j w.
          let k : i < r.count = omega (arith, front_long) in
          s (at r.natives i) (F.each i k)
          (subst (λ (x : ℕ). height (e x) + 2 ≤ h) (neighbours_lead i k) ((height_low h (e (at front i)) l g).0 w))),
    )
      where
        Quiet : ℕ → Type 0
        Quiet x = Low (1024 * (h - 2) + 1023) (e x) → ⊥

    -- and the lowest of them is the lowest to which a rotation leads
    pub high_blames : (top end s : ℕ) → height (e p) + 2 ≤ top → Least (High e (height (e p)) front (length front)) end s → Least (Blames qubits f e top p) end s
    high_blames top end s low = least_same (High e (height (e p)) front (length front)) (Blames qubits f e top p) end s
        (λ x a. let k : a.by < r.count = omega (arith, a.below, front_long) in record {
          low = low;
          native = at r.natives a.by;
          rotation = F.each a.by k;
          is = sym (neighbours_lead a.by k) ∙ a.holds.0;
          high = a.holds.1;
        })
        (λ x a none. led a.native a.rotation (λ i l z. none (record { by = i; below = omega (arith, front_long); holds = (z ∙ a.is, a.high) })))

-- ---- the rule

module _ (q : ℕ) (f e : ℕ → ℕ) (p : ℕ) (some : p ≡ 0 → ⊥) (right : Right f e p) where
  -- a native's value is of depth 0, and not 0
  no_native : (e p ≡ 0) ⊎ (1024 ≤ e p) → NoNative f p
  no_native h n l z = go (kept_for_law f p n l z)
    where
      go : KeptFor f p (kept_for f p) → ⊥
      go k = let w : e p ≡ kept_for f p + 1 = right (kept_for f p) k in ⊎_elim (λ y. omega arith) (λ y. omega (arith, k.below)) h

  -- it says so, and names the kept native
  native_named : (n : ℕ) → KeptFor f p n → (depth (e p) ≡ 0) × Names (e p) n
  native_named n k = let w : e p ≡ n + 1 = right n k in (omega (arith, k.below), omega (arith, k.below))

  -- an entry of depth 0
  named_base : Rule q f e p → Has e p → e p < 1024 → Measured f p (e p)
  named_base r has l = ⊎_elim (λ (m : (n : ℕ) × KeptFor f p n). named m.0 m.1) (λ (none : NoNative f p). absurd (shallow (r.other some none has))) (native_or_none f p)
    where
      named : (n : ℕ) → KeptFor f p n → Measured f p (e p)
      named n k = let w : e p - 1 ≡ n = omega (arith, right n k) in record { below = omega (arith, k.below); measures = ap f w ∙ k.measures }

      shallow : Deep q f e p → ⊥
      shallow d = omega (arith, d.positive)

  -- an entry of a depth above 0
  rule_deep : Rule q f e p → 1024 ≤ e p → Deep q f e p
  rule_deep r l = r.other some (no_native (inr l)) (λ z. omega arith)

  module _ (fits : (x : ℕ) → e x < 2 ^ 32) where
    -- what is tested, with all rotations followed, is all of the rule
    pub rooted_rule : Rooted q f e p → Calm q f e p (height (e p)) → Rule q f e p
    rooted_rule r c = record {
      first = λ w. absurd (some w);
      native_string_law = λ _ n k. native_named n k;
      other = λ _ none has. deep none has;
      without = λ _ z. record { no_native = no_native (inl z); alone = alone z };
    }
      where
        deep : NoNative f p → Has e p → Deep q f e p
        deep none has = elim (dec_lt (e p) 1024) [
          | yes l ↦ absurd (none (e p - 1) (r.base has l).below (r.base has l).measures)
          | no g ↦ record {
            positive = omega arith;
            down = r.made (omega arith);
            no_shorter = λ n t w l. c n t (omega (arith, height_entry (e p) has, height_entry (e (leads q f p n)) w));
          }
        ]

        alone : e p ≡ 0 → (n : ℕ) → Rotation q f n → e (leads q f p n) ≡ 0
        alone z n t = elim (ℕ_discrete (e (leads q f p n)) 0) [
          | yes w ↦ w
          | no g ↦ absurd (c n t (omega (arith, height_gap (e p) z, height_entry (e (leads q f p n)) g, fits (leads q f p n))))
        ]

    -- and no more
    pub rule_calm : Rule q f e p → Calm q f e p (height (e p))
    rule_calm r n t l = elim (ℕ_discrete (e p) 0) [
      | yes z ↦ omega (arith, height_gap (e p) z, height_gap (e (leads q f p n)) ((r.without some z).alone n t))
      | no has ↦ elim (ℕ_discrete (e (leads q f p n)) 0) [
        | yes w ↦ omega (arith, height_gap (e (leads q f p n)) w, height_entry (e p) has, fits p)
        | no g ↦ let a = height_entry (e p) has in let b = height_entry (e (leads q f p n)) g in
            (rule_deep r (omega arith)).no_shorter n t g (omega arith)
      ]
    ]

    pub rule_tested : (top : ℕ) → Rule q f e p → Tested q f e top p
    rule_tested top r = record { rooted = record { base = named_base r; made = λ l. (rule_deep r l).down }; steady = λ _. rule_calm r }
