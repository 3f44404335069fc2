-- `vectors::cases` ends: what is left of the file grows shorter. Assumes nothing.
use Rattle.std.proofs.Common.{length}
use Rattle.vectors.proofs.cases.Given as goal

abbrev pub decreases-loop-s : goal.decreases-loop-s
decreases-loop-s g l = length l.s
