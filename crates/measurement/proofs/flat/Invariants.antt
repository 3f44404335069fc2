-- `measurement::flat` meets its contract: the loop copies the numbers in the order of the rows. Assumes nothing.
use mathlib.Core.Path.{◌≡◌}
use Prim.Native.Nat.{ℕ, ◌/◌, ◌%◌}
use Rattle.bicycle_common.proofs.Filled.{Filled}
use Rattle.measurement.specs.Matrices.{of_rows}
use Rattle.measurement.proofs.flat.Given as goal

abbrev pub invariant-loop-q : goal.invariant-loop-q
invariant-loop-q l = Filled (λ (t x : ℕ). x ≡ of_rows l.m (t / 6) (t % 6)) 0 36 l.q l.out
