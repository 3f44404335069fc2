-- `pauli_string::PauliString::from_letters` meets its contract: the loop goes down from qubit 11, and x and z are the numbers of the digits of
-- the letters passed. Assumes nothing.
use mathlib.Core.Path.{◌≡◌}
use Prim.Native.Nat.{◌≤◌}
use lib.ListN.{length, drop}
use Rattle.bicycle_common.specs.Letters.{x_of, z_of}
use Rattle.pauli_string.specs.Text.{number}
use Rattle.pauli_string.proofs.PauliString.from_letters.Given as goal

abbrev pub invariant-loop-i : goal.invariant-loop-i
invariant-loop-i l = (l.i ≤ 12) × (length l.value ≡ 12) × (l.x ≡ number x_of (drop l.i l.value)) × (l.z ≡ number z_of (drop l.i l.value))

abbrev pub decreases-loop-i : goal.decreases-loop-i
decreases-loop-i l = l.i
