-- `pauli_string::PauliString::from_text` meets its contract: the loop reads the text from its front into the array from its end, and any byte
-- that stands for no letter ends it. Assumes nothing.
use mathlib.Core.List.{List}
use mathlib.Core.Path.{◌≡◌, refl, sym, ap, ◌∙◌}
use Prim.Native.Nat.{ℕ}
use native.Mathlib.Omega.{arith}
use lib.ListN.{length}
use borrow.Author.Rules.{rules}
use Rattle.bicycle_common.proofs.Letters.{read_refused}
use Rattle.pauli_string.specs.Answers.{string}
use Rattle.pauli_string.specs.Text.{good}
use Rattle.pauli_string.proofs.Text.{reading_none, reading_more, reading_done, text_short, text_bad}
use Rattle.pauli_string.proofs.PauliString.from_text.Goals as goal

pub returns-then-text-ne12 : goal.returns-then-text-ne12
returns-then-text-ne12 c = simp (text_short 12 c.args.text.now c.if-text-ne12.true)

pub loop-i-init : goal.loop-i-init
loop-i-init c =
    let n : length c.args.text.now ≡ 12 = omega arith in
    reading_none 12 c.args.text.now _ n refl

pub bounds-text-i : goal.bounds-text-i
bounds-text-i c =
    let r = c.loop-i.invariant in
    let n : length c.args.text.now ≡ 12 = r.size in
    omega arith

pub returns-in_err-letters : goal.returns-in_err-letters
returns-in_err-letters c =
    let s : List ℕ = c.args.text.now in
    let n : length s ≡ 12 = c.loop-i.invariant.size in
    let r = sym c.try_from.ensures ∙ c.in_err-letters.was in
    let e = read_refused _ _ r in
    let bad = text_bad 12 s c.loop-i.i (omega arith) (ap good r) in
    search (rules, e, bad)

pub loop-i-preserved : goal.loop-i-preserved
loop-i-preserved c =
    reading_more 12 c.args.text.now c.loop-i.letters c.loop-i.i _ c.loop-i.invariant (omega arith)
    (sym c.try_from.ensures ∙ c.in_ok-letters.was)

pub returns : goal.returns
returns c =
    let done = reading_done 12 c.args.text.now c.loop-i.letters c.loop-i.i c.loop-i.invariant (omega arith) in
    simp done.0 (ap string (c.from_letters.ensures ∙ done.1))
