-- `table_check::Place::sink_from` meets its contract: the strings that are read are where the rotations lead. Assumes nothing.
use mathlib.Core.Path.{ap, ◌∙◌}
use native.Mathlib.Omega.{arith}
use Rattle.table_check.specs.Tests.{height}
use Rattle.table_check.proofs.Index.{high_blames}
use Rattle.table_check.proofs.Place.sink_from.Goals as goal

pub returns : goal.returns
returns c =
    let s = c.args.self.now.checker.now in
    let z = c.height-h.ensures.0 ∙ ap height c.args.self.now.value in
    high_blames s.rotations.now _ _ c.neighbours.array_long c.neighbours.ensures.each _ _ s.follows _ _ _ (omega (arith, z)) (rw z at c.sink_of.ensures)
