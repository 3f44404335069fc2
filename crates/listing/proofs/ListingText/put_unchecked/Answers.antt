-- `listing::Listing::put_unchecked` meets its contract: before each rotation those in front of it are put. Assumes nothing.
use Rattle.std.proofs.Common.{◌+◌, ◌^◌, ◌<◌, arith, length, take}
use Rattle.std.proofs.lemmas.Grind.{common_steps}
use Rattle.text.proofs.Puts.{then, put_each}
use Rattle.natives.specs.Cells.{shown}
use Rattle.listing.specs.Listings.{rotation_text, rotations_text}
use Rattle.listing.proofs.Texts.{rotation_room, rotations_put}
use Rattle.listing.proofs.ListingText.put_unchecked.Goals as goal

pub put_native-requires : goal.put_native-requires
unfolding rotation_text
put_native-requires c =
    let a = c.args.self.now in
    let ns = take a.plan.now.count a.plan.now.rotations in
    let r : c.put_head.new.out.at + length (rotations_text (shown a.cells.now.cells) (take a.plan.now.count a.plan.now.rotations)) < 2 ^ 64 = grind (arith, common_steps) in
    let m = rotation_room (shown a.cells.now.cells) ns _ c.loop-n.invariant _ r c.loop-n-test.true in
    (omega arith, rw (c.rotation_by_unchecked.ensures, c.string_of_unchecked-p.ensures) m)

pub loop-n-preserved : goal.loop-n-preserved
unfolding rotation_text
loop-n-preserved c =
    put_each (rotation_text (shown c.args.self.now.cells.now.cells)) _ _ _ c.loop-n-test.true c.loop-n.invariant
    (rw (c.rotation_by_unchecked.ensures, c.string_of_unchecked-p.ensures) at c.put_native.ensures)

pub returns : goal.returns
returns c = then c.put_head.ensures (rotations_put _ _ _ c.loop-n.invariant c.loop-n-test.false)
