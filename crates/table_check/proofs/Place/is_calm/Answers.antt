-- `table_check::Place::is_calm` meets its contract: the strings that are read are where the rotations lead, and the entries up to the limit
-- are those so low. Assumes nothing.
use Rattle.std.proofs.lemmas.Bool.Decides.{Decides-like}
use Rattle.table_check.specs.Checkers.{values_of}
use Rattle.table_check.proofs.Index.{still_calm}
use Rattle.table_check.proofs.Place.is_calm.Goals as goal

pub returns : goal.returns
returns c =
    let s = c.args.self.now.checker.now in
    let calm = still_calm s.rotations.now _ _ c.neighbours.array_long c.neighbours.ensures.each _ (values_of s) s.follows _ c.if-h-lt2.false c.height-h.ensures.1 in
    rw (← c.height-h.ensures.0) (Decides-like c.still.result calm.0 calm.1 c.still.ensures)
