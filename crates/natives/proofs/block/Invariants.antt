-- `natives::block` meets its contract: the loop writes one string a turn, into the block alone. Assumes nothing.
use mathlib.Core.Path.{◌≡◌}
use Prim.Native.Nat.{ℕ, ◌<◌}
use lib.Bits.{bit_and}
use Rattle.natives.specs.Arrays.{at}
use Rattle.natives.specs.Cells.{mask}
use Rattle.natives.proofs.block.Given as goal

abbrev pub invariant-loop-k : goal.invariant-loop-k
invariant-loop-k l = (j : ℕ) → j < l.k → at l.string-items j ≡ bit_and l.cell (mask j)
