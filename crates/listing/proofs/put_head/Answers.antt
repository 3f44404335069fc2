-- `listing::put_head` meets its contract: four pieces, one behind the other. Assumes nothing.
use mathlib.Core.Path.{◌≡◌}
use Rattle.std.proofs.Common.{rules}
use Rattle.pauli_string.specs.Strings.{qubits}
use Rattle.pauli_string.specs.Text.{text}
use Rattle.text.proofs.Puts.{then}
use Rattle.listing.specs.Listings.{base_text}
use Rattle.listing.proofs.put_head.Goals as goal

pub returns : goal.returns
unfolding base_text
returns c =
    let m : c.unwrap.result ≡ text qubits c.args.measures.0 = search rules in
    then (then (then (rw m at c.put_line.ensures) c.put_line-2.ensures) (rw c.shifts.ensures at c.put_line-3.ensures)) (rw c.implementation.ensures at c.put_native.ensures)
