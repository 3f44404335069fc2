-- `reader::line_length` meets its contract: the line ends behind the first byte 10, or at the end. Assumes nothing.
use mathlib.Core.Path.{sym, ◌∙◌}
use Rattle.reader.proofs.Lines.{line_found, line_missing}
use Rattle.reader.proofs.line_length.Goals as goal

pub returns-in-Some : goal.returns-in-Some
returns-in-Some c = line_found _ _ (sym c.newline_in.ensures ∙ c.in-Some.is)

pub returns-in-None : goal.returns-in-None
returns-in-None c = line_missing _ (sym c.newline_in.ensures ∙ c.in-None.is)
