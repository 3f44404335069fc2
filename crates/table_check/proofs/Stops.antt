-- Below the ceiling every native's value is right, and it breaks its rule itself. Where a test below it fails, the
-- scan stops there; else at the ceiling. Assumes nothing.
use mathlib.Core.Path.{◌≡◌, ap, ◌∙◌}
use Prim.Native.Nat.{ℕ, ◌+◌, ◌^◌, ◌<◌}
use native.Mathlib.Omega.{arith}
use native.Mathlib.Decide.{ℕ_discrete}
use Rattle.native_measurement.specs.Natives.{natives}
use Rattle.table.specs.Entries.{identity}
use Rattle.table.specs.Rules.{Rule}
use Rattle.table_check.specs.Tests.{Right, Wrong, By, Least, Tested, Scanned}
use Rattle.table_check.proofs.Index.{rule_tested}

module _ (q : ℕ) (f e : ℕ → ℕ) where
  module _ (r : ℕ) (C : Least (By (Wrong f e) natives) (4 ^ q) r) where
    -- a native string with a wrong value breaks its rule
    wrong_breaks : r < 4 ^ q → Rule q f e r → ⊥
    wrong_breaks l rule = go (C.found l)
      where
        go : By (Wrong f e) natives r → ⊥
        go b = let h = rule.native_string_law b.holds.some b.by b.holds.keeps in b.holds.value (omega (arith, h.0, h.1))

    -- below the ceiling a native's value is right
    below_right : (p : ℕ) → (p ≡ 0 → ⊥) → p < r → Right f e p
    below_right p s l n k = elim (ℕ_discrete (e p) (n + 1)) [
      | yes z ↦ z
      | no g ↦ absurd (C.clear p l (record { by = n; below = k.below; holds = record { keeps = k; some = s; value = g } }))
    ]

    -- where the tests pass below it, it is where they stop
    pub ceiling_scanned : (top : ℕ) → ((p : ℕ) → (p ≡ 0 → ⊥) → p < r → Tested q f e top p) → Scanned q f e top r
    ceiling_scanned top h = record { within = C.within; right = below_right; tested = h; breaks = wrong_breaks }

    -- and else where one fails below it
    pub fails_scanned : (top p : ℕ) → ((x : ℕ) → e x < 2 ^ 32) → (p ≡ 0 → ⊥) → p < r
        → ((j : ℕ) → (j ≡ 0 → ⊥) → j < p → Tested q f e top j) → (Tested q f e top p → ⊥) → Scanned q f e top p
    fails_scanned top p fits some l h g = record {
      within = omega (arith, C.within);
      right = λ j s w. below_right j s (omega arith);
      tested = h;
      breaks = λ _ rule. g (rule_tested q f e p some (below_right p some l) fits top rule);
    }

  -- ---- index 0

  -- it meets its rule with 541
  pub first_meets : e 0 ≡ identity → (p : ℕ) → p < 1 → Rule q f e p
  first_meets h p l = let z : p ≡ 0 = omega arith in record {
    first = λ _. ap e z ∙ h;
    native_string_law = λ s. absurd (s z);
    other = λ s. absurd (s z);
    without = λ s. absurd (s z);
  }
