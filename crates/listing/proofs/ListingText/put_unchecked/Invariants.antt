-- `listing::Listing::put_unchecked` meets its contract: before each rotation those in front of it are put. Assumes nothing.
use lib.ListN.{take}
use Rattle.std.specs.List.{flat_map}
use Rattle.text.specs.Puts.{Put}
use Rattle.natives.specs.Cells.{shown}
use Rattle.listing.specs.Listings.{rotation_text}
use Rattle.listing.proofs.ListingText.put_unchecked.Given as goal

abbrev pub invariant-loop-n : goal.invariant-loop-n
invariant-loop-n l = Put l.initial.out (flat_map (rotation_text (shown l.self.cells.now.cells)) (take l.n-index l.n-items)) l.out
