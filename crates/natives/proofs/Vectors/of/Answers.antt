-- `natives::Vectors::of` meets its contract: what is packed of six digits is a word. Assumes nothing.
use mathlib.Core.Path.{◌≡◌}
use Prim.Native.Nat.{ℕ, ◌<◌}
use borrow.Author.Rules.{rules}
use Rattle.natives.specs.Arrays.{at}
use Rattle.natives.specs.Packed.{word_at}
use Rattle.natives.proofs.Grids.{words_lt}
use Rattle.natives.proofs.Vectors.of.Goals as goal

pub invariant_of-result : goal.invariant_of-result
invariant_of-result c =
    let g = c.args in
    let e : (k : ℕ) → k < 6 → at c.from_fn.result k ≡ word_at g.line g.step g.m.now k = search rules in
    record { small = words_lt g.line g.step g.m.now c.requires c.from_fn.result e }
