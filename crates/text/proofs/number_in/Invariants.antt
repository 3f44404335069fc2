-- `text::number_in` meets its contract: v is what the digits before byte b stand for, and three of them are below 1,000. Assumes nothing.
use Rattle.text.proofs.Decimals.{SoFar}
use Rattle.text.proofs.number_in.Given as goal

abbrev pub invariant-loop-b : goal.invariant-loop-b
invariant-loop-b l = SoFar l.s l.b-index l.v
