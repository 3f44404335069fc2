-- `natives::Cells::is_last` meets its contract: the loop passes every greater native. Assumes nothing.
use mathlib.Core.Path.{◌≡◌}
use Prim.Native.Nat.{ℕ, ◌<◌}
use Rattle.natives.specs.Cells.{shown}
use Rattle.natives.proofs.Cells.is_last.Given as goal

abbrev pub invariant-loop-m : goal.invariant-loop-m
invariant-loop-m l = (t : ℕ) → t < l.m → l.n < t → shown l.self.cells t ≡ shown l.self.cells l.n → ⊥
