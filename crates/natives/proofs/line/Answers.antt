-- `natives::line` meets its contract: the loop writes one cell a turn, and leaves those before the block. Assumes nothing.
use borrow.Author.Rules.{rules}
use mathlib.Core.Path.{◌≡◌, ◌∙◌}
use Prim.Native.Nat.{ℕ, ◌+◌, ◌*◌}
use native.Mathlib.Omega.{arith}
use lib.Seq.{get_or-set_other}
use Rattle.natives.specs.Cells.{grid_cell}
use Rattle.natives.proofs.Shown.{cell_at, stored_from}
use Rattle.natives.proofs.line.Goals as goal

pub loop-y-preserved : goal.loop-y-preserved
loop-y-preserved c =
    let w = c.loop-y in
    let g = c.args in
    let cs = g.cs.now.rows in
    let rs = g.rs.now.rows in (
      search rules,
      λ t l. get_or-set_other w.out (6 * g.x + w.y) t _ 0 (λ e. omega arith) ∙ w.invariant.1 t l,
      stored_from (λ (j v : ℕ). v ≡ grid_cell cs rs (6 * g.x + j)) w.out 0 (6 * g.x) w.y _ (omega arith) w.invariant.2
          (c.place.ensures ∙ cell_at cs rs g.x w.y c.requires (omega arith)),
    )

pub returns : goal.returns
returns c =
    let w = c.loop-y in
    record { size = search rules; stays = w.invariant.1; here = λ j h. w.invariant.2 j (omega arith) }
