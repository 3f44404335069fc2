-- `measurement::MatrixPair::first_row` meets its contract: place by place it is the row of the matrix. Assumes nothing.
use borrow.Author.Rules.{rules}
use Prim.Native.Nat.{ℕ, ◌<◌}
use mathlib.Core.Path.{◌≡◌, ◌∙◌}
use native.Mathlib.Omega.{arith}
use lib.ListN.{get_or}
use Rattle.bicycle_common.proofs.Ranges.{listed_all}
use Rattle.measurement.specs.Matrices.{of_rows}
use Rattle.measurement.specs.Measures.{action}
use Rattle.measurement.proofs.MatrixPair.first_row.Goals as goal

pub returns : goal.returns
returns c =
    let g = c.args in
    let e : (t : ℕ) → t < 6 → get_or c.from_fn.result t 0 ≡ of_rows c.action-m.result.rows 0 t = search rules in
    listed_all (λ (t : ℕ). action 6 (of_rows g.self.mx.rows) (of_rows g.self.my.rows) g.a 0 t) 0 c.from_fn.result 6 c.from_fn.ensures.items.long
    (λ t h. e t h ∙ c.action-m.ensures 0 t (omega arith) h)
