-- `listing::put_native` meets its contract: the expansion's line stands behind the native's. Assumes nothing.
use Rattle.text.proofs.Puts.{then}
use Rattle.listing.proofs.put_native.Goals as goal

pub returns-in-Ok : goal.returns-in-Ok
returns-in-Ok g c = rw c.in-Ok.is (then c.put_line.ensures c.put_line-in-Ok.ensures)

pub returns-in-Err : goal.returns-in-Err
returns-in-Err g c = rw c.in-Err.is (then c.put_line.ensures c.put_line-in-Err.ensures)
