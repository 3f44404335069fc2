-- `natives::Cells::is_last` meets its contract: the loop passes every greater native. Assumes nothing.
use mathlib.Core.Path.{sym, ◌∙◌}
use native.Mathlib.Omega.{arith}
use Rattle.natives.specs.Cells.{shown}
use Rattle.natives.proofs.Kept.{not_kept}
use Rattle.natives.proofs.Cells.is_last.Goals as goal

pub returns-then-string_unchecked-v : goal.returns-then-string_unchecked-v
returns-then-string_unchecked-v c =
    let g = c.args in
    let w = c.loop-m in
    sym (not_kept (shown g.self.now.cells) g.n w.m (omega arith) (omega arith) (sym c.string_unchecked.ensures ∙ c.if-string_unchecked-v.true ∙ c.string_unchecked-v.ensures))
