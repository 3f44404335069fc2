-- `table_check::neighbours` meets its contract: what is stored are strings, as a string conjugated with a string is one. Assumes nothing.
use native.Mathlib.Omega.{arith}
use Rattle.table_check.proofs.Index.{neighbours_small}
use Rattle.table_check.proofs.neighbours.Goals as goal

pub returns-clause-strings : goal.returns-clause-strings
returns-clause-strings c = neighbours_small c.args.rotations.now _ _ (λ i l. c.loop-i.invariant i (omega arith)) c.requires
