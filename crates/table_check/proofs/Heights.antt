-- The height of a value is its depth, and that of no value is above them all. Those two or more below a height are the entries up to a limit.
-- Assumes nothing.
use borrow.Author.Tests.{eq-eqb, ne_eqb}
use mathlib.Core.Logic.{◌↔◌}
use mathlib.Core.Path.{◌≡◌}
use Prim.Native.Nat.{ℕ, ◌+◌, ◌-◌, ◌*◌, ◌≤◌}
use native.Mathlib.Decide.{ℕ_discrete}
use native.Mathlib.Omega.{arith}
use Rattle.table.specs.Entries.{depth}
use Rattle.table_check.specs.Tests.{gap, height, Low}

pub height_gap : (v : ℕ) → v ≡ 0 → height v ≡ gap
unfolding height
height_gap v z = rw (eq-eqb v 0 z)

pub height_entry : (v : ℕ) → (v ≡ 0 → ⊥) → height v ≡ depth v
unfolding height
height_entry v g = rw (ne_eqb v 0 g)

pub height_low : (h w : ℕ) → 2 ≤ h → h ≤ gap → Low (1024 * (h - 2) + 1023) w ↔ (height w + 2 ≤ h)
height_low h w l g = (λ a. omega (arith, height_entry w a.some, a.low), from)
  where
    from : height w + 2 ≤ h → Low (1024 * (h - 2) + 1023) w
    from k = elim (ℕ_discrete w 0) [
      | yes z ↦ absurd (omega (arith, height_gap w z))
      | no s ↦ record { some = s; low = omega (arith, height_entry w s) }
    ]
