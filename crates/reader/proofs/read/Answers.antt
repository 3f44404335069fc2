-- `reader::read` meets its contract: the bytes that it looks at decide. Assumes nothing.
use Rattle.std.proofs.Common.{rules, arith}
use Rattle.reader.proofs.Bound.{front_head}
use Rattle.reader.proofs.read.Goals as goal

pub returns-in_err-mx : goal.returns-in_err-mx
returns-in_err-mx c = rw (front_head _ _ _ (omega arith) c.min.ensures) (search rules)

pub returns-in_err-my : goal.returns-in_err-my
returns-in_err-my c = rw (front_head _ _ _ (omega arith) c.min.ensures) (search rules)

pub returns : goal.returns
returns c = rw (front_head _ _ _ (omega arith) c.min.ensures) (search rules)
