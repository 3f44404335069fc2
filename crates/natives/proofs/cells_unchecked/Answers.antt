-- `natives::cells_unchecked` meets its contract: the cells of the two grids are the first rows and the first columns, so the strings that
-- they show are the natives'. Assumes nothing.
use mathlib.Core.Path.{◌∙◌}
use Rattle.measurement.specs.Matrices.{of_bytes}
use Rattle.natives.specs.Arrays.{at}
use Rattle.natives.proofs.Grids.{WordsOf, bytes_rows, bytes_columns, rows_are, columns_are, grid_native}
use Rattle.natives.proofs.Shown.{grid_lt, cells_spread, shown_grid}
use Rattle.natives.proofs.cells_unchecked.Goals as goal

pub of-rx-requires : goal.of-rx-requires
of-rx-requires c = bytes_rows c.args.pair.mx.now c.args.pair.x_matrix

pub of-ry-requires : goal.of-ry-requires
of-ry-requires c = bytes_rows c.args.pair.my.now c.args.pair.y_matrix

pub of-cx-requires : goal.of-cx-requires
of-cx-requires c = bytes_columns c.args.pair.mx.now c.args.pair.x_matrix

pub of-cy-requires : goal.of-cy-requires
of-cy-requires c = bytes_columns c.args.pair.my.now c.args.pair.y_matrix

pub marked-requires : goal.marked-requires
marked-requires c =
    let cs = c.of-cs.result in
    let rs = c.of-rs.result in
    λ a h. rw (c.lines.ensures.1 a h) (grid_lt cs.rows rs.rows cs.small rs.small a h)

pub invariant_of-result : goal.invariant_of-result
invariant_of-result c =
    let cs = c.of-cs.result in
    let rs = c.of-rs.result in
    record { spread = cells_spread cs.rows rs.rows cs.small rs.small (at c.lines.result) c.lines.ensures.1 c.marked.result c.marked.ensures }

pub returns : goal.returns
returns c =
    let p = c.args.pair in
    let cs = c.of-cs in
    let rs = c.of-rs in
    let a = of_bytes 6 p.mx.now in
    let b = of_bytes 6 p.my.now in
    let w : WordsOf a b c.of-rx.result.words c.of-ry.result.words c.of-cx.result.words c.of-cy.result.words = record {
      rows_x = (c.of-rx.result.small, rows_are p.mx.now c.of-rx.result.words (bytes_rows p.mx.now p.x_matrix) c.of-rx.ensures);
      rows_y = (c.of-ry.result.small, rows_are p.my.now c.of-ry.result.words (bytes_rows p.my.now p.y_matrix) c.of-ry.ensures);
      columns_x = (c.of-cx.result.small, columns_are p.mx.now c.of-cx.result.words (bytes_columns p.mx.now p.x_matrix) c.of-cx.ensures);
      columns_y = (c.of-cy.result.small, columns_are p.my.now c.of-cy.result.words (bytes_columns p.my.now p.y_matrix) c.of-cy.ensures);
    } in
    λ n h. shown_grid cs.result.rows rs.result.rows cs.result.small rs.result.small (at c.lines.result) c.lines.ensures.1 c.marked.result c.marked.ensures n h
    ∙ grid_native a b _ _ _ _ w cs.result.rows rs.result.rows cs.ensures rs.ensures n h
