-- `search::turn` meets its contract: what is gathered is tried, and that is what the rotations try. Assumes nothing.
use mathlib.Core.Path.{◌∙◌}
use Rattle.pauli_string.specs.Strings.{qubits}
use Rattle.natives.specs.Arrays.{at}
use Rattle.discovery.specs.States.{twelve}
use Rattle.discovery.specs.Builds.{held}
use Rattle.discovery.proofs.Short.{is_short}
use Rattle.discovery.proofs.States.{moving_asks}
use Rattle.search.proofs.Turns.{led_same, led_beside}
use Rattle.search.proofs.turn.Goals as goal

pub visits-requires-clause-by_index : goal.visits-requires-clause-by_index
visits-requires-clause-by_index g c j h =
    let a = c.args in
    let m = c.gather_unchecked.new.self in
    moving_asks qubits twelve a.p a.depth (at m.strings j) (at m.natives j) (held (is_short g.row.SHORT) a.b.now)
    (led_beside twelve a.r.now.count c.requires.moving.small a.r.now.blanked c.gather_unchecked.ensures.led j h) c.requires.moving

pub returns-clause-comes : goal.returns-clause-comes
returns-clause-comes g c =
    let e = c.visits.ensures.comes in
    record { to = e.to ∙ led_same c.args.depth (held (is_short g.row.SHORT) c.args.b.now) c.requires.moving.has c.gather_unchecked.ensures.led; notes = e.notes }
