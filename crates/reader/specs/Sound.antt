-- What every plan that is read is. Assumes nothing.
use Rattle.std.specs.Prelude.{true, ◌≡◌, ◌≤◌, length}
use Rattle.pauli_string.specs.Strings.{qubits}
use Rattle.measurement.specs.Matrices.{side, is_bytes}
use Rattle.table.specs.Plans.{Gives}
use Rattle.reader.specs.Plans.{Plan, strings_of, numbers, measured, most_rotations}

-- Both matrices are of zeros and ones, the base and at most 256 rotations with pivot support are natives, and what they measure, the
-- rotations applied in order to the base, is not the identity.
pub record Sound (p : Plan) : Type 0 where
  pub mx : is_bytes side p.pair.mx ≡ true
  pub my : is_bytes side p.pair.my ≡ true
  pub gives : Gives qubits (strings_of p.pair) p.base.0 (numbers p.rotations) (measured p)
  pub few : length p.rotations ≤ most_rotations
  pub some : measured p ≡ 0 → ⊥
