-- A rotation that commutes with a string leads it to itself, and another to the product. So each rotation is stored behind the front, which
-- stays as it was, and counts where the two anticommute. Assumes nothing.
use mathlib.Core.Path.{◌≡◌, sym, ap, subst, ◌∙◌}
use mathlib.Core.List.{List}
use Prim.Native.Nat.{ℕ, ◌+◌, ◌%◌, ◌<◌}
use native.Mathlib.Omega.{arith}
use native.Mathlib.Decide.{ℕ_discrete}
use lib.Bits.{bit_xor}
use lib.ListN.{set, length-set}
use lib.Seq.{get_or-set_same, get_or-set_other}
use borrow.Author.Tests.{eq-eqb, ne_eqb}
use Rattle.pauli_string.specs.Strings.{clashes, commute, conj, blank, rotate}
use Rattle.pauli_string.proofs.Commutation.{conj_commuting, conj_anti}
use Rattle.natives.specs.Arrays.{at}
use Rattle.rotations.specs.Packed.{Blanked}
use Rattle.moves.specs.Moves.{Led, none, stays, moves, Gathered}

-- a rotation by a blanked string, decided by the clashes
rotate_stays : (q p r : ℕ) → blank q r ≡ r → clashes q p r q % 2 ≡ 0 → rotate q p r ≡ p
unfolding rotate commute
rotate_stays q p r b z = ap (conj q p) b ∙ conj_commuting q p r (eq-eqb (clashes q p r q % 2) 0 z)

rotate_moves : (q p r : ℕ) → blank q r ≡ r → clashes q p r q % 2 ≡ 1 → rotate q p r ≡ bit_xor p r
unfolding rotate commute
rotate_moves q p r b z = ap (conj q p) b ∙ conj_anti q p r (ne_eqb (clashes q p r q % 2) 0 (λ w. omega arith))

module _ {q p : ℕ} {rs ns xs gs : List ℕ} where
  -- only what stands below k counts
  led_same : (xs' gs' : List ℕ) {k i : ℕ} → ((j : ℕ) → j < k → at xs' j ≡ at xs j) → ((j : ℕ) → j < k → at gs' j ≡ at gs j)
      → Led q p rs ns xs gs k i → Led q p rs ns xs' gs' k i
  led_same xs' gs' wx wg none = none
  led_same xs' gs' wx wg (stays h z) = stays (led_same xs' gs' wx wg h) z
  led_same xs' gs' wx wg (moves {k} h x n) =
      moves (led_same xs' gs' (λ j l. wx j (omega arith)) (λ j l. wg j (omega arith)) h) (wx k (omega arith) ∙ x) (wg k (omega arith) ∙ n)

module _ (q p : ℕ) (rs ns : List ℕ) (m i : ℕ) (xs gs : List ℕ) (k : ℕ) (R : Blanked q rs ns m) (l : i < m) (g : Gathered q p rs ns i xs gs k) where
  abbrev y : ℕ
  y = bit_xor p (at rs i)

  new_x : at (set xs k y) k ≡ y
  new_x = get_or-set_same xs k y 0 (omega (arith, g.front, g.scratch.long_x, R.few))

  new_g : at (set gs k (at ns i)) k ≡ at ns i
  new_g = get_or-set_same gs k (at ns i) 0 (omega (arith, g.front, g.scratch.long_g, R.few))

  front : Led q p rs ns (set xs k y) (set gs k (at ns i)) k i
  front =
      led_same (set xs k y) (set gs k (at ns i)) (λ j w. get_or-set_other xs k j y 0 (λ z. omega arith))
      (λ j w. get_or-set_other gs k j (at ns i) 0 (λ z. omega arith)) g.led

  -- what is stored counts where the two strings anticommute
  led_more : (d : ℕ) → d ≡ clashes q p (at rs i) q % 2 → Led q p rs ns (set xs k y) (set gs k (at ns i)) (k + d) (i + 1)
  led_more d z = elim (ℕ_discrete d 0) [
    | yes w ↦ let e : k ≡ k + d = omega arith in
        subst (λ (k' : ℕ). Led q p rs ns (set xs k y) (set gs k (at ns i)) k' (i + 1)) e (stays front (rotate_stays q p (at rs i) (R.blanked i) (sym z ∙ w)))
    | no w ↦ let o : d ≡ 1 = omega arith in
        subst (λ (d : ℕ). Led q p rs ns (set xs k y) (set gs k (at ns i)) (k + d) (i + 1)) (sym o)
        (moves front (new_x ∙ sym (rotate_moves q p (at rs i) (R.blanked i) (sym z ∙ o))) new_g)
  ]

  pub gather_more : (d : ℕ) → d ≡ clashes q p (at rs i) q % 2 → Gathered q p rs ns (i + 1) (set xs k (bit_xor p (at rs i))) (set gs k (at ns i)) (k + d)
  gather_more d z = record {
    scratch = record { long_x = length-set xs k y ∙ g.scratch.long_x; long_g = length-set gs k (at ns i) ∙ g.scratch.long_g };
    front = omega (arith, g.front);
    led = led_more d z;
  }
