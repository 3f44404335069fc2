-- `table_check::Checker::scan` meets its contract: every nonzero index passed meets its tests; the first that does not is answered, or else
-- the ceiling. Assumes nothing.
use mathlib.Core.Path.{◌≡◌}
use Prim.Native.Nat.{ℕ, ◌<◌}
use Rattle.pauli_string.specs.Strings.{qubits}
use Rattle.table_check.specs.Checkers.{strings_of, values_of}
use Rattle.table_check.specs.Tests.{Tested}
use Rattle.table_check.proofs.Checker.scan.Given as goal

abbrev pub invariant-loop-p : goal.invariant-loop-p
invariant-loop-p l = (j : ℕ) → j < l.p → (j ≡ 0 → ⊥) → Tested qubits (strings_of l.self) (values_of l.self) l.self.top j
