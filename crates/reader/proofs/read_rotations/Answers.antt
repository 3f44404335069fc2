-- `reader::read_rotations` meets its contract: before each line those before it are read, and the first bad one decides. Assumes nothing.
use mathlib.Core.Path.{sym, ap, ◌∙◌}
use Rattle.std.proofs.Common.{rules, of_calls}
use Rattle.std.proofs.lemmas.Fn.{always_returns_same}
use Rattle.std.proofs.iter.Serving.{serving}
use Rattle.reader.specs.Lines.{lines}
use Rattle.reader.specs.Answers.{stated}
use Rattle.natives.proofs.Shown.{shown_lt}
use Rattle.reader.proofs.Lines.{cut}
use Rattle.reader.proofs.Rotations.{plan_zero, plan_good, text_start, text_end, line_full, line_small, line_refused, line_taken}
use Rattle.reader.proofs.read_rotations.Goals as goal

pub loop-line-init : goal.loop-line-init
loop-line-init c = (
  grind serving,
  search rules,
  rw (c.string_of_unchecked-measures.ensures, c.into_iter-line-iterator.ensures.into_iter_gives, c.split_inclusive-line-items.ensures.rest)
      (text_start c.args.pair _ c.requires.cells_of c.args.base (lines c.args.input.now) c.requires.base_below),
)

pub returns-then-count-eq256 : goal.returns-then-count-eq256
returns-then-count-eq256 c = ap stated (sym (line_full c.args.pair _ c.requires.cells_of _ c.loop-line.invariant.2 c.in-Some.ensures.steps.2 c.if-count-eq256.true))

pub returns-in_err-n : goal.returns-in_err-n
returns-in_err-n c =
    let line = cut c.in-Some.ensures.steps (always_returns_same _ _ _ (λ a r f k. search (rules, of_calls))) in
    let refused = line_refused c.args.pair _ c.requires.cells_of _ c.loop-line.invariant.2 c.in-Some.ensures.steps.2 c.if-count-eq256.false in
    let e = ap stated (sym (refused _ (sym (rw line.0 at c.rotation_line.ensures) ∙ c.in_err-n.was))) in
    search (rules, e)

pub string_of_unchecked-requires : goal.string_of_unchecked-requires
string_of_unchecked-requires c =
    let line = cut c.in-Some.ensures.steps (always_returns_same _ _ _ (λ a r f k. search (rules, of_calls))) in
    line_small c.args.pair _ c.requires.cells_of _ c.loop-line.invariant.2 c.in-Some.ensures.steps.2 _ (sym (rw line.0 at c.rotation_line.ensures) ∙ c.in_ok-n.was)

pub rotate_unchecked-measures-requires : goal.rotate_unchecked-measures-requires
rotate_unchecked-measures-requires c = (c.loop-line.invariant.2.string, rw c.string_of_unchecked.ensures (shown_lt _ _))

pub loop-line-preserved : goal.loop-line-preserved
loop-line-preserved c =
    let line = cut c.in-Some.ensures.steps (always_returns_same _ _ _ (λ a r f k. search (rules, of_calls))) in
    let taken = line_taken c.args.pair _ c.requires.cells_of _ c.loop-line.invariant.2 c.in-Some.ensures.steps.2 c.if-count-eq256.false in (
      grind serving,
      search rules,
      rw (line.1, c.rotate_unchecked-measures.ensures, c.string_of_unchecked.ensures) (taken _ (sym (rw line.0 at c.rotation_line.ensures) ∙ c.in_ok-n.was)),
    )

pub returns-then-measures-eq0 : goal.returns-then-measures-eq0
returns-then-measures-eq0 c = ap stated (sym (plan_zero c.args.pair (text_end c.args.pair _ c.requires.cells_of _ c.loop-line.invariant.2 c.in-None.ensures.steps.0) c.if-measures-eq0.true))

pub returns : goal.returns
returns c = plan_good c.args.pair (text_end c.args.pair _ c.requires.cells_of _ c.loop-line.invariant.2 c.in-None.ensures.steps.0) c.if-measures-eq0.false
