-- `bicycle::bicycle_rotation_instructions` meets its contract: it is the text of the rotation's instructions, flattened, and a number that is
-- no native's is refused whatever stands for it. Assumes nothing.
use mathlib.Core.Path.{ap, ◌∙◌}
use Rattle.pauli_string.specs.Strings.{qubits}
use Rattle.bicycle.specs.Flat.{flat_write}
use Rattle.bicycle.proofs.Narrow.{rotation_narrow}
use Rattle.bicycle.proofs.bicycle_rotation_instructions.Goals as goal

pub returns : goal.returns
returns c =
    let w = rw (c.native_number.ensures, rotation_narrow _ _ _ c.args.n qubits) at c.rotation_instructions.ensures in
    record { answer = c.into.ensures ∙ ap flat_write w.answer; buffer = w.buffer }
