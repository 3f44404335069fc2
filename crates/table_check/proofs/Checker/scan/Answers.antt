-- `table_check::Checker::scan` meets its contract: every nonzero index passed meets its tests; the first that does not is answered, or else
-- the ceiling. Assumes nothing.
use native.Mathlib.Omega.{arith}
use Rattle.std.proofs.lemmas.Bool.Decides.{not_from_Decides}
use Rattle.table_check.proofs.Stops.{ceiling_scanned, fails_scanned}
use Rattle.table_check.proofs.Checker.scan.Goals as goal

pub returns-then-not-meets : goal.returns-then-not-meets
returns-then-not-meets c =
    fails_scanned _ _ _ _ c.requires _ _ c.args.self.now.fits (λ z. omega arith) (omega arith) (λ j some l. c.loop-p.invariant j l some) (not_from_Decides _ (rw (c.place.ensures.1, c.place.ensures.0) at c.meets.ensures) c.if-not-meets.true)

pub returns : goal.returns
returns c = ceiling_scanned _ _ _ _ c.requires _ (λ p some l. c.loop-p.invariant p (omega arith) some)
