-- `rotations::pack_unchecked` meets its contract: before native n, the rotations among those below it are packed. Assumes nothing.
use Rattle.natives.specs.Arrays.{at}
use Rattle.rotations.proofs.pack_unchecked.Goals as goal

pub loop-n-init : goal.loop-n-init
loop-n-init c = c.packed_none-r.ensures (at c.args.natives.now.strings)
