-- `reader::read_rotations` meets its contract: before each line those before it are read, and the first bad one decides. Assumes nothing.
use Rattle.std.specs.Slice.Iter.{split_inclusive_rest}
use Rattle.reader.specs.Lines.{lines}
use Rattle.reader.specs.Plans.{strings_of}
use Rattle.reader.proofs.Rotations.{Reading}
use Rattle.reader.proofs.read_rotations.Given as goal

abbrev pub invariant-loop-line : goal.invariant-loop-line
invariant-loop-line l =
    (goal.iterator-loop-line).can_next l.line-iterator ×
    (goal.iterator-loop-line).is_finite l.line-iterator ×
    Reading (strings_of l.pair) l.base (lines l.input) (lines (split_inclusive_rest l.line-iterator)) l.rotations l.count l.measures.0
