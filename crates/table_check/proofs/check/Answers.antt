-- `table_check::check` meets its contract: a table and a pair are given, and the check stops at the lowest index that breaks its rule, or
-- behind all. Assumes nothing.
use mathlib.Core.Path.{◌≡◌}
use Rattle.std.specs.Prelude.{Ok}
use Rattle.pauli_string.specs.Strings.{qubits}
use Rattle.measurement.specs.Matrices.{side}
use Rattle.measurement.specs.Measures.{pair_string}
use Rattle.natives.proofs.Arrays.{natives_at}
use Rattle.table.specs.Answers.{given}
use Rattle.table.specs.Bytes.{entry}
use Rattle.table.proofs.Answers.{is_given}
use Rattle.table.proofs.Bytes.{entry_lt}
use Rattle.table_check.specs.Tests.{Stops}
use Rattle.table_check.proofs.Answers.{stops_checked}
use Rattle.table_check.proofs.Same.{stops_same}
use Rattle.table_check.proofs.check.Goals as goal
use Rattle.table_check.proofs.check.Goals.{After-lowest-p}

module _ (c : After-lowest-p) where
  done : given qubits side c.args.table.now c.args.mx.now c.args.my.now ≡ Ok tt
  done =
      let p = c.in_ok-pair in
      rw (← c.in_ok-table.ensures.table, ← p.ensures.pair.0, ← p.ensures.pair.1) (is_given qubits side _ _ _ c.in_ok-table.table.whole p.pair.x_matrix p.pair.y_matrix)

  stops : Stops qubits (pair_string side c.args.mx.now c.args.my.now) (entry c.args.table.now) c.lowest-p.result
  stops =
      let p = c.in_ok-pair.ensures.pair in
      rw (← c.in_ok-table.ensures.table, ← p.0, ← p.1) (stops_same _ _ _ (natives_at _ _ _ c.natives_unchecked.ensures.strings) _ _ c.lowest-p.ensures)

pub lowest-p-requires : goal.lowest-p-requires
lowest-p-requires c = rw c.in_ok-table.ensures.table (entry_lt c.args.table.now (λ i. (c.type_inv.table i).fits))

pub returns : goal.returns
returns c =
    let a = (goal.at.returns c).After-lowest-p in
    rw c.then_some.ensures (stops_checked _ _ _ _ _ _ (done a) (stops a))
