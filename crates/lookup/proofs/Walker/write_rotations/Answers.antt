-- `lookup::Walker::write_rotations` meets its contract: with some rotations left, the string is that of the walk's place, and those behind
-- them are written. Assumes nothing.
use Rattle.std.proofs.Common.{arith}
use Rattle.lookup.proofs.Steps.{writing_first, writing_names, writing_long, writing_next}
use Rattle.lookup.proofs.Walker.write_rotations.Goals as goal

pub loop-left-init : goal.loop-left-init
loop-left-init c = writing_first c.requires.d_value.0

pub overflow_sub-n : goal.overflow_sub-n
overflow_sub-n c = (writing_names c.loop-left.invariant c.requires.p_value c.entry_unchecked.ensures).0

pub put_number-requires : goal.put_number-requires
put_number-requires c =
    let a = c.loop-left.invariant in
    (omega (arith, writing_long a, c.requires.d_value.1, a.place.few, c.loop-left-test.true), (writing_names a c.requires.p_value c.entry_unchecked.ensures).1)

pub next-at-requires : goal.next-at-requires
next-at-requires c = (writing_names c.loop-left.invariant c.requires.p_value c.entry_unchecked.ensures).1

pub loop-left-preserved : goal.loop-left-preserved
loop-left-preserved c =
    writing_next c.loop-left.invariant c.loop-left-test.true
    c.entry_unchecked.ensures c.next-at.ensures c.put_number.ensures
