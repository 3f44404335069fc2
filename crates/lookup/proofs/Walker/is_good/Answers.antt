-- `lookup::Walker::is_good` meets its contract: the string and the value are those of the walk's place, and every place before it stands.
-- Assumes nothing.
use Rattle.std.proofs.Common.{sym, ap, ◌∙◌, arith}
use Rattle.table.specs.Entries.{depth}
use Rattle.lookup.proofs.Steps.{place_first, place_bad, stood_next, place_last, place_next}
use Rattle.lookup.proofs.Walker.is_good.Goals as goal

pub loop-depth-init : goal.loop-depth-init
loop-depth-init c = (place_first c.entry_unchecked-v.ensures (ap depth c.entry_unchecked-v.ensures), λ j l. absurd (omega arith))

pub returns-then-not-stands : goal.returns-then-not-stands
returns-then-not-stands c = sym (place_bad c.loop-depth.invariant.0 (sym c.if-not-stands.ensures))

pub loop-depth-preserved : goal.loop-depth-preserved
loop-depth-preserved c =
    let a = c.loop-depth.invariant in (
      place_next a.0 c.loop-depth-test.true c.next-at.ensures c.entry_unchecked-v-in-loop-depth.ensures,
      stood_next a.0 c.loop-depth-test.true a.1 (sym c.if-not-stands.ensures),
    )

pub returns : goal.returns
returns c = c.stands-2.ensures ∙ place_last c.loop-depth.invariant.0 (omega (arith, c.loop-depth-test.false)) c.loop-depth.invariant.1
