-- `listing::put_line` meets its contract: the name, the value and the line's end are put one behind the other. Assumes nothing.
use Rattle.text.proofs.Puts.{then}
use Rattle.listing.proofs.put_line.Goals as goal

pub returns : goal.returns
returns g c = then (then c.put_bytes_unchecked.ensures c.put_unchecked.ensures) c.put_byte_unchecked.ensures
