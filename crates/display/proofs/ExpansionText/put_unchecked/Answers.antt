-- `display::Expansion::put_unchecked` meets its contract: before each instruction behind the first those in front of it are put. Assumes nothing.
use native.Mathlib.Omega.{arith}
use Rattle.text.proofs.Puts.{then, put_each}
use Rattle.display.proofs.Texts.{behind, first_room, next_room, all_put, put_no_instruction}
use Rattle.display.proofs.ExpansionText.put_unchecked.Goals as goal

pub returns-in_default : goal.returns-in_default
returns-in_default c = put_no_instruction _ _ c.in_default.len_below

pub put_instruction-requires : goal.put_instruction-requires
put_instruction-requires c = first_room _ _ c.in-len1-up.len_at_least _ c.requires

pub put_byte_unchecked-requires : goal.put_byte_unchecked-requires
put_byte_unchecked-requires c =
    omega (arith, next_room _ _ c.in-len1-up.len_at_least _ c.put_instruction.ensures c.loop-i.invariant c.requires c.loop-i-test.true)

pub put_instruction-requires-in-loop-i : goal.put_instruction-requires-in-loop-i
put_instruction-requires-in-loop-i c =
    omega (arith, next_room _ _ c.in-len1-up.len_at_least _ c.put_instruction.ensures c.loop-i.invariant c.requires c.loop-i-test.true, c.put_byte_unchecked.ensures.moves)

pub loop-i-preserved : goal.loop-i-preserved
loop-i-preserved c = put_each behind _ _ _ c.loop-i-test.true c.loop-i.invariant (then c.put_byte_unchecked.ensures c.put_instruction-in-loop-i.ensures)

pub returns : goal.returns
returns c = all_put _ _ c.in-len1-up.len_at_least _ c.put_instruction.ensures c.loop-i.invariant c.loop-i-test.false
