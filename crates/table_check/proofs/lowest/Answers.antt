-- `table_check::lowest` meets its contract: index 0 is tested first, and the others by the packed rotations, up to the ceiling and from both
-- ends. Assumes nothing.
use mathlib.Core.Path.{sym, ◌∙◌}
use Rattle.table_check.proofs.Index.{packed_follows}
use Rattle.table_check.proofs.Ends.{sunk_stops}
use Rattle.table_check.proofs.lowest.Goals as goal

pub invariant_of-checker : goal.invariant_of-checker
invariant_of-checker c = record { fits = c.requires; follows = packed_follows _ _ _ _ _ c.pack_unchecked-rotations.ensures }

pub returns : goal.returns
returns c =
    sunk_stops _ _ _ c.args.natives.now.held.small c.requires _ _ _ c.scan.ensures c.sink.ensures (sym c.entry_unchecked.ensures ∙ c.if-entry_unchecked-ne541.false)
