-- `builder::build_pair` meets its contract: the model reads the strings of the natives alone. Assumes nothing.
use mathlib.Core.Path.{ap, ◌∙◌}
use Rattle.pauli_string.specs.Strings.{qubits}
use Rattle.measurement.specs.Matrices.{side}
use Rattle.measurement.specs.Measures.{pair_string}
use Rattle.natives.specs.Arrays.{at}
use Rattle.natives.proofs.Arrays.{natives_at}
use Rattle.discovery.proofs.Same.{built_same}
use Rattle.builder.specs.Answers.{done}
use Rattle.builder.proofs.build_pair.Goals as goal

pub returns : goal.returns
returns c =
    let mx = c.args.pair.mx.now in
    let my = c.args.pair.my.now in
    let l = c.natives_unchecked.result.strings in
    c.build_from.ensures ∙ ap (done qubits) (built_same qubits (at l) (pair_string side mx my) (natives_at mx my l c.natives_unchecked.ensures.strings))
