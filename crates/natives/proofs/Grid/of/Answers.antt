-- `natives::Grid::of` meets its contract: each row of the grid is a run from one head, and the heads are a run from 1. Assumes nothing.
use mathlib.Core.Path.{refl, ap, ◌∙◌}
use Prim.Native.Nat.{ℕ}
use native.Mathlib.Omega.{arith}
use Rattle.bicycle_common.proofs.Filled.{filled_none, filled_more, filled_each}
use Rattle.natives.specs.Arrays.{at}
use Rattle.natives.specs.Packed.{iterated, cell, GridOf}
use Rattle.natives.proofs.Grids.{cells_small}
use Rattle.natives.proofs.Grid.of.Goals as goal
use Rattle.natives.proofs.Grid.of.Goals.{After-loop-i}

pub loop-i-init : goal.loop-i-init
loop-i-init c = filled_none refl

pub run-requires : goal.run-requires
run-requires c = c.run-heads.result.small c.loop-i.i c.loop-i-test.true

pub loop-i-preserved : goal.loop-i-preserved
loop-i-preserved c = filled_more c.loop-i.invariant (omega arith) c.run.ensures

cells : (c : After-loop-i) → GridOf c.args.p.now.words c.args.q.now.words c.loop-i.rows
unfolding cell
cells c =
    let heads = c.run-heads.result in
    λ i j hi hj. filled_each c.loop-i.invariant (omega arith) i hi j hj
    ∙ c.of-through.ensures (at heads.words i) j (heads.small i hi)
    ∙ ap (λ (v : ℕ). iterated 6 (at c.args.q.now.words) v j) (c.run-heads.ensures i hi ∙ c.of.ensures 1 i (omega arith))

pub invariant_of-result : goal.invariant_of-result
invariant_of-result c =
    let p = c.args.p.now in
    let q = c.args.q.now in
    record { small = cells_small p.words q.words c.loop-i.rows p.small q.small (cells (goal.at.invariant_of-result c).After-loop-i) }

pub returns : goal.returns
returns c = cells (goal.at.returns c).After-loop-i
