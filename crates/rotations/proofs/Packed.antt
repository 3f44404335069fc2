-- The rotations are packed native by native: one that is no rotation is passed over, and another is stored behind the front, which stays as it
-- was. What is packed then is each rotation, and no other native, and steps by the packed ones are steps by all that are rotations. Assumes
-- nothing.
use mathlib.Core.Path.{◌≡◌, refl, sym, ap, ap₂, subst, ◌∙◌}
use mathlib.Core.Bool.{Bool, true, false, cond}
use mathlib.Core.List.{List}
use Prim.Native.Nat.{ℕ, ◌+◌, ◌^◌, ◌≤◌, ◌<◌}
use native.Mathlib.Omega.{arith}
use native.Mathlib.Decide.{ℕ_discrete}
use lib.Dec.{T}
use lib.ListN.{length, set, replicate, length-set}
use lib.Seq.{get_or-set_same, get_or-set_other}
use Rattle.bicycle_common.specs.Ranges.{in_turn}
use Rattle.bicycle_common.proofs.Ranges.{stored_at, stored_more, in_turn_none, in_turn_next}
use Rattle.pauli_string.specs.Strings.{blank}
use Rattle.pauli_string.proofs.Range.{four_pos}
use Rattle.pauli_string.proofs.Pivot.{blank_le, blank_blank}
use Rattle.native_measurement.specs.Natives.{natives}
use Rattle.natives.specs.Arrays.{at}
use Rattle.table.specs.Bytes.{zeros}
use Rattle.table.specs.Entries.{is_rotation}
use Rattle.table.proofs.Bytes.{get_or_zeros, length_zeros}
use Rattle.rotations.specs.Packed.{Chosen, none, skips, takes, Packed}

-- ---- numbers that are chosen

module _ {c : ℕ → Bool} {g : ℕ → ℕ} where
  pub chosen_front : {m k : ℕ} → Chosen c g m k → m ≤ k
  chosen_front none = omega arith
  chosen_front (skips h e) = omega (arith, chosen_front h)
  chosen_front (takes h e z) = omega (arith, chosen_front h)

  -- only what g gives below m counts
  chosen_same : (g' : ℕ → ℕ) {m k : ℕ} → ((i : ℕ) → i < m → g' i ≡ g i) → Chosen c g m k → Chosen c g' m k
  chosen_same g' w none = none
  chosen_same g' w (skips h e) = skips (chosen_same g' w h) e
  chosen_same g' w (takes {m} h e z) = takes (chosen_same g' (λ i l. w i (omega arith)) h) e (w m (omega arith) ∙ z)

  -- each is below k, and c is true of it
  chosen_each : {m k : ℕ} → Chosen c g m k → (i : ℕ) → i < m → (g i < k) × (c (g i) ≡ true)
  chosen_each none i l = absurd (omega arith)
  chosen_each (skips h e) i l = let o = chosen_each h i l in (omega (arith, o.0), o.1)
  chosen_each (takes {m} h e z) i l = elim (ℕ_discrete i m) [
    | yes w ↦ (omega (arith, ap g w, z), ap c (ap g w ∙ z) ∙ e)
    | no w ↦ let o = chosen_each h i (omega arith) in (omega (arith, o.0), o.1)
  ]

  -- each number below k of which c is true is among them
  chosen_all : {m k : ℕ} → Chosen c g m k → (n : ℕ) → n < k → c n ≡ true → (i : ℕ) × (i < m) × (g i ≡ n)
  chosen_all none n l t = absurd (omega arith)
  chosen_all (skips {m} {k} h e) n l t = elim (ℕ_discrete n k) [
    | yes w ↦ absurd (subst T (sym t ∙ ap c w ∙ e) tt)
    | no w ↦ chosen_all h n (omega arith) t
  ]
  chosen_all (takes {m} {k} h e z) n l t = elim (ℕ_discrete n k) [
    | yes w ↦ (m, omega arith, z ∙ sym w)
    | no w ↦ let o = chosen_all h n (omega arith) t in (o.0, omega (arith, o.1), o.2)
  ]

  -- steps by these in turn are steps by all numbers below k of which c is true
  pub chosen_turns : {S : Type 0} {m k : ℕ} (step : ℕ → S → S) (s : S) → Chosen c g m k
      → in_turn m (λ (i : ℕ). step (g i)) s ≡ in_turn k (λ (n : ℕ) (t : S). cond (c n) (step n t) t) s
  chosen_turns {S} step s = go
    where
      by : ℕ → S → S
      by i = step (g i)

      all : ℕ → S → S
      all n t = cond (c n) (step n t) t

      next : (k : ℕ) (b : Bool) → c k ≡ b → in_turn (k + 1) all s ≡ cond b (step k (in_turn k all s)) (in_turn k all s)
      next k b e = in_turn_next k all s ∙ ap (λ (b : Bool). cond b (step k (in_turn k all s)) (in_turn k all s)) e

      go : {m k : ℕ} → Chosen c g m k → in_turn m by s ≡ in_turn k all s
      go none = in_turn_none by s ∙ sym (in_turn_none all s)
      go (skips {m} {k} h e) = go h ∙ sym (next k false e)
      go (takes {m} {k} h e z) = in_turn_next m by s ∙ ap₂ step z (go h) ∙ sym (next k true e)

-- ---- packing

blank_zero : (q r : ℕ) → r ≡ 0 → blank q r ≡ r
blank_zero q r z = omega (arith, blank_le q r)

packed_none : (q : ℕ) (f : ℕ → ℕ) (rs ns : List ℕ) → length rs ≡ natives → length ns ≡ natives → ((i : ℕ) → at rs i ≡ 0)
    → ((i : ℕ) → at ns i ≡ 0) → Packed q f rs ns 0 0
packed_none q f rs ns lr ln hr hn = record {
  rotations = record {
    long_r = lr;
    long_n = ln;
    few = omega arith;
    small = λ i. omega (arith, hr i, four_pos q);
    blanked = λ i. blank_zero q (at rs i) (hr i);
    native_below = λ i. omega (arith, hn i);
  };
  chosen = none;
  strings = λ i l. absurd (omega arith);
}

packed_zeros : (q : ℕ) (f : ℕ → ℕ) (n : ℕ) → n ≡ natives → Packed q f (zeros n) (zeros n) 0 0
packed_zeros q f n z = packed_none q f (zeros n) (zeros n) (length_zeros n ∙ z) (length_zeros n ∙ z) (get_or_zeros n) (get_or_zeros n)

pub packed_fresh : (q : ℕ) (f : ℕ → ℕ) → Packed q f (replicate natives 0) (replicate natives 0) 0 0
packed_fresh q f = unfold zeros in packed_zeros q f natives refl

pub packed_skip : (q : ℕ) (f : ℕ → ℕ) (rs ns : List ℕ) (m k : ℕ) → is_rotation q f k ≡ false → Packed q f rs ns m k → Packed q f rs ns m (k + 1)
packed_skip q f rs ns m k e h = record { rotations = h.rotations; chosen = skips h.chosen e; strings = h.strings }

module _ (q : ℕ) (some : 0 < q) (f : ℕ → ℕ) (rs ns : List ℕ) (m k : ℕ) (l : k < natives) (h : Packed q f rs ns m k) where
  abbrev r : ℕ
  r = blank q (f k)

  m_below_r : m < length rs
  m_below_r = omega (arith, chosen_front h.chosen, h.rotations.long_r)

  m_below_n : m < length ns
  m_below_n = omega (arith, chosen_front h.chosen, h.rotations.long_n)

  -- the front is as it was, and behind it stands native k
  pub packed_more : is_rotation q f k ≡ true → f k < 4 ^ q → Packed q f (set rs m (blank q (f k))) (set ns m k) (m + 1) (k + 1)
  packed_more e small = record {
    rotations = record {
      long_r = length-set rs m r ∙ h.rotations.long_r;
      long_n = length-set ns m k ∙ h.rotations.long_n;
      few = omega (arith, chosen_front h.chosen);
      small = λ i. stored_at (λ (x : ℕ). x < 4 ^ q) rs 0 i m r m_below_r (λ _. omega (arith, blank_le q (f k))) (λ _. h.rotations.small i);
      blanked = λ i. stored_at (λ (x : ℕ). blank q x ≡ x) rs 0 i m r m_below_r (λ _. blank_blank q (f k) some) (λ _. h.rotations.blanked i);
      native_below = λ i. stored_at (λ (x : ℕ). x < natives) ns 0 i m k m_below_n (λ _. l) (λ _. h.rotations.native_below i);
    };
    chosen = takes (chosen_same (at (set ns m k)) front_n h.chosen) e here_n;
    strings = stored_more (λ (i x : ℕ). x ≡ blank q (f (at (set ns m k) i))) rs 0 m r m_below_r
        (λ i w. h.strings i w ∙ ap (λ (n : ℕ). blank q (f n)) (sym (front_n i w))) (ap (λ (n : ℕ). blank q (f n)) (sym here_n));
  }
    where
      front_n : (i : ℕ) → i < m → at (set ns m k) i ≡ at ns i
      front_n i w = get_or-set_other ns m i k 0 (λ z. omega arith)

      here_n : at (set ns m k) m ≡ k
      here_n = get_or-set_same ns m k 0 m_below_n

-- ---- what is packed

module _ {q : ℕ} {f : ℕ → ℕ} {rs ns : List ℕ} {m k : ℕ} (h : Packed q f rs ns m k) where
  -- each that is packed is a rotation
  pub packed_each : (i : ℕ) → i < m → (at ns i < k) × (is_rotation q f (at ns i) ≡ true)
  packed_each = chosen_each h.chosen

  -- each rotation is packed
  pub packed_all : (n : ℕ) → n < k → is_rotation q f n ≡ true → (i : ℕ) × (i < m) × (at ns i ≡ n)
  packed_all = chosen_all h.chosen
