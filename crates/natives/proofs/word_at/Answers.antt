-- `natives::word_at` meets its contract: the digits are the bytes. Assumes nothing.
use mathlib.Core.Path.{◌≡◌, ◌∙◌}
use Prim.Native.Nat.{ℕ, ◌+◌, ◌*◌, ◌<◌}
use borrow.Author.Rules.{rules}
use Rattle.measurement.proofs.Matrices.{packed_same}
use Rattle.natives.specs.Arrays.{at}
use Rattle.natives.proofs.word_at.Goals as goal

pub returns : goal.returns
returns c =
    let g = c.args in
    let e : (j : ℕ) → j < 6 → at c.from_fn.result j ≡ at g.m.now (g.line * g.k + g.step * j) = search rules in
    c.packed_unchecked.ensures ∙ packed_same 6 e
