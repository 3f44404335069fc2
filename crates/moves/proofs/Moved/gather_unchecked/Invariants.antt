-- `Moved::gather_unchecked` meets its contract: each rotation is stored behind those that move p, and counts where the two anticommute; what is
-- told of the later ones stands behind what is stored. Assumes nothing.
use Prim.Native.Nat.{ℕ, ◌+◌, ◌*◌, ◌/◌, ◌%◌, ◌^◌}
use Rattle.pauli_string.specs.Strings.{qubits}
use Rattle.moves.specs.Moves.{Odds, Gathered}
use Rattle.moves.proofs.Moved.gather_unchecked.Given as goal

-- the transposed of p
abbrev pub turned : ℕ → ℕ
turned p = p % 2 ^ qubits * 2 ^ qubits + p / 2 ^ qubits

abbrev pub invariant-loop-i : goal.invariant-loop-i
invariant-loop-i l =
    Gathered qubits l.p l.r.strings l.r.natives l.i l.self.strings l.self.natives l.k × Odds (turned l.p) l.r.strings l.i l.r.count l.self.natives
