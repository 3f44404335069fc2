-- `measurement::is_matrix` meets its contract: bytes of the right length are a matrix where their digits together are at most 1. Assumes nothing.
use mathlib.Core.Path.{ap, ◌∙◌}
use Prim.Native.Nat.{ℕ}
use lib.Dec.{leb}
use Rattle.measurement.proofs.Together.{bytes_joined}
use Rattle.measurement.proofs.is_matrix.Goals as goal

pub returns-then-m-eq36 : goal.returns-then-m-eq36
returns-then-m-eq36 c = ap (λ (n : ℕ). leb n 1) c.joined.ensures ∙ bytes_joined c.args.m.now c.if-m-eq36.true
