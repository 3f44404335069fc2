-- `listing::list` meets its contract: what the reader answers can be printed, and its text is the output. Assumes nothing.
use mathlib.Core.Path.{sym, ap, ◌∙◌}
use native.Mathlib.Omega.{arith}
use lib.ListN.{length}
use Rattle.listing.proofs.Answers.{read_matrices, read_printable, read_listed, read_refused}
use Rattle.listing.proofs.Lengths.{output_length}
use Rattle.listing.proofs.list.Goals as goal

pub invariant_of-cells_unchecked : goal.invariant_of-cells_unchecked
invariant_of-cells_unchecked c =
    let m = read_matrices c.args.input.now _ (sym c.read.ensures ∙ c.in-Ok.is) in
    record { x_matrix = m.0; y_matrix = m.1 }

pub invariant_of-listing : goal.invariant_of-listing
invariant_of-listing c = record { printable = read_printable c.args.input.now _ (sym c.read.ensures ∙ c.in-Ok.is) }

pub write_unchecked-requires : goal.write_unchecked-requires
write_unchecked-requires c =
    omega (arith, ap length (read_listed c.args.input.now _ (sym c.read.ensures ∙ c.in-Ok.is) _ c.cells_unchecked-cells.ensures), output_length c.args.input.now)

pub write_unchecked-requires-in-Err : goal.write_unchecked-requires-in-Err
write_unchecked-requires-in-Err c =
    omega (arith, ap length (read_refused c.args.input.now _ (sym c.read.ensures ∙ c.in-Err.is)), output_length c.args.input.now)

pub returns-in-Ok : goal.returns-in-Ok
returns-in-Ok c =
    rw (read_listed c.args.input.now _ (sym c.read.ensures ∙ c.in-Ok.is) _ c.cells_unchecked-cells.ensures) at c.write_unchecked.ensures

pub returns-in-Err : goal.returns-in-Err
returns-in-Err c = rw (read_refused c.args.input.now _ (sym c.read.ensures ∙ c.in-Err.is)) at c.write_unchecked-in-Err.ensures
