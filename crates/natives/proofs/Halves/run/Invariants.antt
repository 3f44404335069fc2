-- `natives::Halves::run` meets its contract: each turn takes the last word one step further. Assumes nothing.
use mathlib.Core.Path.{◌≡◌}
use Prim.Native.Nat.{ℕ}
use Rattle.bicycle_common.proofs.Filled.{Filled}
use Rattle.natives.specs.Packed.{walked}
use Rattle.natives.proofs.Halves.run.Given as goal

abbrev pub invariant-loop-t : goal.invariant-loop-t
invariant-loop-t l = Filled (λ (t x : ℕ). x ≡ walked l.self.low l.self.high l.v t) 0 6 l.t l.words
