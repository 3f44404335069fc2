-- `pauli_string::set_bit` meets its contract: one digit is set, or cleared. Assumes nothing.
use mathlib.Core.Bool.{Bool}
use mathlib.Core.Path.{ap, sym, ◌∙◌}
use native.Mathlib.Omega.{arith}
use Rattle.pauli_string.specs.Strings.{set_bit}
use Rattle.bicycle_common.specs.Letters.{flag}
use Rattle.pauli_string.proofs.Places.{set_one, set_zero}
use Rattle.pauli_string.proofs.set_bit.Goals as goal

pub returns-then-value : goal.returns-then-value
returns-then-value c =
    set_one 32 c.args.index c.args.n (omega arith)
    ∙ ap (λ (b : Bool). set_bit c.args.n c.args.index (flag b)) (sym c.if-value.true)

pub returns-else-value : goal.returns-else-value
returns-else-value c =
    set_zero 32 c.args.index c.args.n (omega arith) (omega arith)
    ∙ ap (λ (b : Bool). set_bit c.args.n c.args.index (flag b)) (sym c.if-value.false)
