-- `reader::value_in` meets its contract: without its name a line is none, and behind the name stand the value and the end. Assumes nothing.
use Rattle.std.proofs.Common.{◌≡◌, false, rules}
use Rattle.reader.specs.Lines.{is_line}
use Rattle.reader.proofs.Lines.{no_name, value_found}
use Rattle.reader.proofs.value_in.Goals as goal

pub returns-in_err-strip_prefix : goal.returns-in_err-strip_prefix
returns-in_err-strip_prefix c =
    let h : is_line c.args.name.now c.args.l.now ≡ false = no_name _ _ c.in_err-strip_prefix.ensures.cases in
    search rules

pub returns : goal.returns
returns c =
    let h = c.in_ok-strip_prefix.ensures.cases in
    value_found _ _ _ _ h.0 h.1 c.strip_suffix.ensures.cases
