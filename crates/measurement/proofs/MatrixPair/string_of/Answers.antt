-- `measurement::MatrixPair::string_of` meets its contract: column and row are digits, packed, and the letters place them. Assumes nothing.
use borrow.Author.Rules.{rules}
use mathlib.Core.Path.{◌∙◌}
use native.Mathlib.Omega.{arith}
use Rattle.measurement.specs.Matrices.{of_rows}
use Rattle.measurement.proofs.Matrices.{action_binary}
use Rattle.measurement.proofs.Strings.{listed_le, packed_listed_lt, measured_by_law}
use Rattle.measurement.proofs.MatrixPair.string_of.Goals as goal

pub packed_unchecked-map_x-requires : goal.packed_unchecked-map_x-requires
packed_unchecked-map_x-requires c = listed_le 6 _ _ c.first_column.ensures (λ i h. action_binary 6 _ _ _ i 0 h (omega arith))

pub packed_unchecked-map_z-requires : goal.packed_unchecked-map_z-requires
packed_unchecked-map_z-requires c = listed_le 6 _ _ c.first_row.ensures (λ j h. action_binary 6 _ _ _ 0 j (omega arith) h)

pub place_bases-requires : goal.place_bases-requires
place_bases-requires c =
    let x =
    packed_listed_lt 6 _ _ _ c.first_column.ensures (λ i h. action_binary 6 _ _ _ i 0 h (omega arith))
    c.packed_unchecked-map_x.ensures
    in
    let z =
    packed_listed_lt 6 _ _ _ c.first_row.ensures (λ j h. action_binary 6 _ _ _ 0 j (omega arith) h) c.packed_unchecked-map_z.ensures
    in search rules

pub returns : goal.returns
returns c =
    let g = c.args in
    let column = c.first_column in
    let row = c.first_row in
    c.place_bases.ensures
    ∙ measured_by_law 6 (of_rows g.self.mx.rows) (of_rows g.self.my.rows) g.native _ c.inv.ensures _ _ column.ensures row.ensures _ _
    c.packed_unchecked-map_x.ensures c.packed_unchecked-map_z.ensures
