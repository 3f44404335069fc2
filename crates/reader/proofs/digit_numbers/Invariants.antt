-- `reader::digit_numbers` meets its contract: the loop fills the array from the front with the numbers of the digits. Assumes nothing.
use mathlib.Core.Path.{◌≡◌}
use mathlib.Core.Bool.{true}
use Prim.Native.Nat.{ℕ}
use lib.ListN.{drop, get_or}
use Rattle.bicycle_common.specs.Bytes.{digit_numbers}
use Rattle.bicycle_common.proofs.Filled.{Filled}
use Rattle.text.specs.Decimals.{all_digits}
use Rattle.reader.proofs.digit_numbers.Given as goal

abbrev pub invariant-loop-i : goal.invariant-loop-i
invariant-loop-i l = Filled (λ (t x : ℕ). x ≡ get_or (digit_numbers l.s) t 0) 0 36 l.i l.number-items × (all_digits (drop l.i l.s) ≡ true)
