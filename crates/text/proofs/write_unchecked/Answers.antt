-- `text::write_unchecked` meets its contract: there is room for all of the text, or nothing is written. Assumes nothing.
use Rattle.std.proofs.Common.{rules}
use Rattle.text.proofs.Fronts.{written_whole}
use Rattle.text.proofs.write_unchecked.Goals as goal

pub returns : goal.returns
returns g c = written_whole c.length_of-needed.ensures c.if-out-needed.false (search rules) (search rules)
