-- `Filter::is_clear_unchecked` meets its contract: a digit that is not 1 is 0. Assumes nothing.
use mathlib.Core.Path.{◌≡◌, refl, ap, ◌∙◌}
use mathlib.Core.Bool.{not}
use Prim.Native.Nat.{ℕ, zero, suc, ◌%◌, ◌/◌, ◌<◌}
use native.Mathlib.Omega.{arith}
use lib.Dec.{eqb}
use Rattle.pauli_string.proofs.Digits.{bit_lt}
use Rattle.natives.specs.Arrays.{at}
use Rattle.digits.specs.Digits.{digit}
use Rattle.digits.proofs.Filter.is_clear_unchecked.Goals as goal

not_one : (d : ℕ) → d < 2 → not (eqb d 1) ≡ eqb d 0
not_one zero h = refl
not_one (suc zero) h = refl
not_one (suc (suc d)) h = absurd (omega arith)

pub returns : goal.returns
returns c =
    let f = c.args.self.now.digits in
    let b = c.place.result in
    ap not c.is_one_unchecked.ensures
    ∙ not_one (digit f b) (bit_lt (at f (b / 8)) (b % 8))
    ∙ ap (λ (b : ℕ). eqb (digit f b) 0) c.place.ensures.0
