-- A plan measures a string, and 0 exactly when its base's string is 0: a rotation leads 0 to 0, and nothing else to it. Assumes nothing.
use mathlib.Core.Path.{◌≡◌, ap, ◌∙◌}
use Prim.Native.Nat.{ℕ, ◌^◌, ◌<◌}
use native.Mathlib.Omega.{arith}
use Rattle.pauli_string.specs.Strings.{qubits}
use Rattle.measurement.specs.Matrices.{side, of_bytes}
use Rattle.measurement.proofs.Strings.{native_lt}
use Rattle.measurement.specs.declared.CodeMeasurement.{CodeMeasurement}
use Rattle.table.specs.Plans.{applied}
use Rattle.table.proofs.Applied.{applied_zero, applied_nonzero, applied_string}
use Rattle.reader.specs.Plans.{Plan, strings_of, numbers, measured}

-- a native measures a string
pub native_string_law : (c : CodeMeasurement) (n : ℕ) → strings_of c n < 4 ^ qubits
native_string_law c n = native_lt side (omega arith) (of_bytes side c.mx) (of_bytes side c.my) n

module _ (p : Plan) where
  pub measured_string : measured p < 4 ^ qubits
  measured_string =
      applied_string qubits (strings_of p.pair) (native_string_law p.pair) (numbers p.rotations) (strings_of p.pair p.base.0) (native_string_law p.pair p.base.0)

  pub measures_zero : strings_of p.pair p.base.0 ≡ 0 → measured p ≡ 0
  measures_zero e =
      ap (λ (b : ℕ). applied qubits (strings_of p.pair) b (numbers p.rotations)) e
      ∙ applied_zero qubits (strings_of p.pair) (numbers p.rotations)

  pub zero_base : measured p ≡ 0 → strings_of p.pair p.base.0 ≡ 0
  zero_base e = applied_nonzero qubits (strings_of p.pair) (numbers p.rotations) (strings_of p.pair p.base.0) e
