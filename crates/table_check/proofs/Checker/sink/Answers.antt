-- `table_check::Checker::sink` meets its contract: the end sinks from one nonzero string after another. Assumes nothing.
use mathlib.Core.Path.{◌≡◌}
use Prim.Native.Nat.{◌^◌}
use native.Mathlib.Omega.{arith}
use Rattle.pauli_string.specs.Strings.{qubits}
use Rattle.table_check.proofs.Least.{blamed_more}
use Rattle.table_check.proofs.Checker.sink.Goals as goal

pub loop-x-preserved : goal.loop-x-preserved
loop-x-preserved c = blamed_more _ _ _ _ _ _ _ _ (omega arith) c.loop-x.invariant (rw (c.place.ensures.1, c.place.ensures.0) at c.sink_from-r.ensures)

pub returns : goal.returns
returns c = let z : c.loop-x.x ≡ 4 ^ qubits = omega arith in rw z at c.loop-x.invariant
