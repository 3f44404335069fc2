-- `table_check::Place::leads_down` meets its contract: a rotation by the native's string is where it leads, and the value read there is compared.
-- Assumes nothing.
use mathlib.Core.Path.{sym, subst}
use Prim.Native.Nat.{ℕ, ◌^◌, ◌<◌}
use Rattle.pauli_string.specs.Strings.{qubits}
use Rattle.pauli_string.proofs.Pivot.{rotate_string}
use Rattle.table_check.proofs.Place.leads_down.Goals as goal

pub entry_unchecked-w-requires : goal.entry_unchecked-w-requires
entry_unchecked-w-requires c =
    subst (λ (x : ℕ). x < 4 ^ qubits) (sym c.rotate_unchecked-x.ensures) (rotate_string qubits _ _ c.args.self.now.string (c.args.self.now.checker.now.natives.now.held.small c.args.n))
