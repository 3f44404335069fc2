-- `lookup::Walker::found` meets its contract: a good walk's end has a value that names its native. Assumes nothing.
use Rattle.std.proofs.Common.{◌-◌, ap, ◌∙◌, arith}
use Rattle.pauli_string.specs.Strings.{qubits}
use Rattle.table.specs.Entries.{depth}
use Rattle.lookup.specs.Held.{strings, values}
use Rattle.lookup.specs.Walks.{bottom}
use Rattle.lookup.proofs.Walks.{stands_valid, good_at}
use Rattle.lookup.proofs.Walker.found.Goals as goal
use Rattle.lookup.proofs.Walker.found.Goals.{Start}

pub overflow_sub-n : goal.overflow_sub-n
overflow_sub-n c =
    let w = c.args.self in
    let d = depth (values w c.args.p.number) in
    let b = bottom qubits (strings w) (values w) c.args.p.number in
    let v = stands_valid qubits (strings w) (values w b) (d - d) b (good_at qubits (strings w) (values w) c.args.p.number c.requires d (omega arith)) in
    omega (arith, c.entry_unchecked.ensures ∙ ap (values w) c.write_rotations-bottom.ensures.0, v.some)
