-- Trying the packed rotations is trying all natives, and trying only what moves the string is trying the packed rotations: a native that is no
-- rotation does nothing, and a rotation that commutes leads to the string itself, which has an entry. Assumes nothing.
use mathlib.Core.Path.{◌≡◌, sym, ap, ap₂, subst, ◌∙◌}
use mathlib.Core.List.{List}
use Prim.Native.Nat.{ℕ, ◌^◌, ◌<◌}
use native.Mathlib.Omega.{arith}
use native.Mathlib.Decide.{ℕ_discrete}
use Rattle.bicycle_common.specs.Ranges.{in_turn}
use Rattle.bicycle_common.proofs.Ranges.{in_turn_none, in_turn_next, in_turn_same}
use Rattle.pauli_string.specs.Strings.{conj, blank, rotate}
use Rattle.pauli_string.proofs.Pivot.{blank_blank}
use Rattle.natives.specs.Arrays.{at}
use Rattle.shortest.specs.Graphs.{Has}
use Rattle.table.specs.Bytes.{entry}
use Rattle.table.specs.Entries.{value, leads}
use Rattle.rotations.specs.Packed.{Blanked, Packed}
use Rattle.moves.specs.Moves.{Led, none, stays, moves}
use Rattle.rotations.proofs.Packed.{chosen_turns}
use Rattle.discovery.specs.Model.{State, discover, attempt}
use Rattle.discovery.specs.States.{Fits, Beside}
use Rattle.discovery.specs.Tried.{tried}
use Rattle.discovery.proofs.Model.{discover_old}
use Rattle.discovery.proofs.States.{tried_keeps, rotate_beside}
use Rattle.search.specs.Turns.{listed_tried, packed_tried}

-- ---- packing

rotate_blank : (q p r : ℕ) → 0 < q → rotate q p (blank q r) ≡ rotate q p r
unfolding rotate
rotate_blank q p r h = ap (conj q p) (blank_blank q r h)

-- trying the packed rotations is trying the natives that they were packed of
pub packed_same : (q : ℕ) (F : Fits q) (f : ℕ → ℕ) (rs ns : List ℕ) (m k p d : ℕ) (s : State) → Packed q f rs ns m k
    → in_turn m (packed_tried q rs ns p d) s ≡ in_turn k (attempt q f p d) s
unfolding attempt
packed_same q F f rs ns m k p d s h =
    in_turn_same m (packed_tried q rs ns p d) (tried (λ (i : ℕ). leads q f p (at ns i)) (at ns) d) s
    (λ i l a. ap (λ (x : ℕ). discover x (value d (at ns i)) a) (ap (rotate q p) (h.strings i l) ∙ rotate_blank q p (f (at ns i)) F.some))
    ∙ chosen_turns (λ (n : ℕ). discover (leads q f p n) (value d n)) s h.chosen

-- ---- what moves the string

module _ {q p : ℕ} {rs ns xs gs : List ℕ} where
  -- trying what the rotations lead p to is trying the rotations, where p has an entry
  pub led_same : (d : ℕ) (s : State) → Has (entry s.table) p → {k i : ℕ} → Led q p rs ns xs gs k i
      → in_turn k (listed_tried xs gs d) s ≡ in_turn i (packed_tried q rs ns p d) s
  led_same d s h none = in_turn_none (listed_tried xs gs d) s ∙ sym (in_turn_none (packed_tried q rs ns p d) s)
  led_same d s h (stays {k} {i} g z) =
      let w = in_turn i (packed_tried q rs ns p d) s in
      let kept : Has (entry w.table) p =
      λ e. h (sym (tried_keeps (λ (j : ℕ). rotate q p (at rs j)) (at ns) d i p s h) ∙ e) in
      led_same d s h g
      ∙ sym
      (in_turn_next i (packed_tried q rs ns p d) s
      ∙ ap (λ (x : ℕ). discover x (value d (at ns i)) w) z
      ∙ discover_old w p (value d (at ns i)) kept)
  led_same d s h (moves {k} {i} g x n) =
      in_turn_next k (listed_tried xs gs d) s
      ∙ ap₂ (λ (x n : ℕ). discover x (value d n) (in_turn k (listed_tried xs gs d) s)) x n
      ∙ ap (discover (rotate q p (at rs i)) (value d (at ns i))) (led_same d s h g)
      ∙ sym (in_turn_next i (packed_tried q rs ns p d) s)

  -- each stands beside p
  pub led_beside : (F : Fits q) (m : ℕ) → p < 4 ^ q → Blanked q rs ns m → {k i : ℕ} → Led q p rs ns xs gs k i
      → (j : ℕ) → j < k → Beside q p (at xs j) (at gs j)
  led_beside F m hp R none j l = absurd (omega arith)
  led_beside F m hp R (stays g z) j l = led_beside F m hp R g j l
  led_beside F m hp R (moves {k} {i} g x n) j l = elim (ℕ_discrete j k) [
    | yes w ↦ subst (λ (j : ℕ). Beside q p (at xs j) (at gs j)) (sym w)
        (rw (x, n) (rotate_beside q F p (at rs i) (at ns i) hp (R.small i) (R.native_below i)))
    | no w ↦ led_beside F m hp R g j (omega arith)
  ]
