-- `reader::split_line` meets its contract: a line is no longer than the text. Assumes nothing.
use native.Mathlib.Omega.{arith}
use Rattle.reader.proofs.Lines.{line_in}
use Rattle.reader.proofs.split_line.Goals as goal

pub split_at-requires : goal.split_at-requires
split_at-requires c = omega (arith, line_in c.args.s.now)
