-- The depth that a build tells keeps the bound of `depth_never_passes`. It stands here and not beside that theorem, so that a wrong bound there
-- reads well and is refused. Assumes nothing.
use Rattle.std.specs.Prelude.{ℕ, ◌^◌, ◌≤◌}
use Rattle.bicycle_common.proofs.Ranges.{most_le}
use Rattle.pauli_string.specs.Strings.{qubits}
use Rattle.measurement.specs.Matrices.{side, Matrix}
use Rattle.measurement.specs.Measures.{native_string}
use Rattle.table.specs.Bytes.{entry}
use Rattle.table.specs.Entries.{depth}
use Rattle.table.specs.Answers.{deepest}
use Rattle.discovery.specs.Model.{built}
use Rattle.promises.specs.Tables.{depth_never_passes}

module _ (mx my : Matrix) where
  -- the natives' strings and the built table's values
  abbrev f : ℕ → ℕ
  f = native_string side mx my

  abbrev value : ℕ → ℕ
  value = entry (built qubits f).table

  pub told_depth_never_passes : deepest qubits (built qubits f).table ≤ 4194303
  told_depth_never_passes = most_le (4 ^ qubits) (λ (p : ℕ). depth (value p)) 4194303 (depth_never_passes mx my)
