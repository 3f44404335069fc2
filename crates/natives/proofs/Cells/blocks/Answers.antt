-- `natives::Cells::blocks` meets its contract: the loop writes the fifteen strings of one automorphism a turn. Assumes nothing.
use native.Mathlib.Omega.{arith}
use Rattle.natives.specs.Cells.{shown}
use Rattle.natives.proofs.Shown.{block_more, block_shown}
use Rattle.natives.proofs.Cells.blocks.Goals as goal

pub loop-a-preserved : goal.loop-a-preserved
loop-a-preserved c =
    let w = c.loop-a in
    let l = c.args.self.now.cells in
    block_more 15 540 w.a (shown l) _ w.out _ (omega arith) (block_shown l w.a) c.block.ensures w.invariant
