-- `moves::odds` meets its contract: each store leaves those before it. Assumes nothing.
use mathlib.Core.Path.{◌≡◌}
use lib.ListN.{length}
use Rattle.native_measurement.specs.Natives.{natives}
use Rattle.moves.specs.Moves.{Odds}
use Rattle.moves.proofs.odds.Given as goal

abbrev pub invariant-loop-i : goal.invariant-loop-i
invariant-loop-i l = (length l.gs ≡ natives) × Odds l.t l.r.strings 0 l.i l.gs
