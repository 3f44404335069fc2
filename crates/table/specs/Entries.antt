-- What a value of the table says, and which values are valid entries. Everywhere f n is the string of native n, over q qubits. Assumes
-- nothing.
use Rattle.std.specs.Prelude.{Bool, true, false, cond, ◌&&◌, ◌≡◌, ℕ, ◌+◌, ◌-◌, ◌*◌, ◌/◌, ◌%◌, ◌<◌, eqb, ltb}
use Rattle.pauli_string.specs.Strings.{has_pivot, rotate}
use Rattle.native_measurement.specs.Natives.{natives}
use Rattle.natives.specs.Kept.{kept}

-- ---- values

-- Value = 1024·depth + field
abbrev pub depth : ℕ → ℕ
depth v = v / 1024

abbrev pub field : ℕ → ℕ
field v = v % 1024

-- the field n + 1 names native n
abbrev pub Names : ℕ → ℕ → Type 0
Names v n = field v ≡ n + 1

-- the native that the field names, where it names one
abbrev pub named : ℕ → ℕ
named v = field v - 1

-- the value of depth d that names native n
unfoldable pub value : ℕ → ℕ → ℕ
value d n = 1024 * d + (n + 1)

-- the identity's value, at index 0 only: depth 0, and a field that names no native
abbrev pub identity : ℕ
identity = 541

-- the Rust cost of string p, of which v is the value: 1 + 2·depth, identity 0
abbrev pub cost : ℕ → ℕ → ℕ
cost p v = cond (eqb p 0) 0 (1 + 2 * depth v)

-- ---- natives and rotations

-- native n is kept for string p
pub record KeptFor (f : ℕ → ℕ) (p n : ℕ) : Type 0 where
  pub below : n < natives
  pub is_kept : kept f n ≡ true
  pub measures : f n ≡ p

-- a rotation is a kept native with pivot support
abbrev pub is_rotation : ℕ → (ℕ → ℕ) → ℕ → Bool
is_rotation q f n = kept f n && has_pivot q (f n)

pub record Rotation (q : ℕ) (f : ℕ → ℕ) (n : ℕ) : Type 0 where
  pub below : n < natives
  pub is_rotation_law : is_rotation q f n ≡ true

-- the string to which rotation n leads from p: p conjugated with the rotation's string, its pivot blanked
abbrev pub leads : ℕ → (ℕ → ℕ) → ℕ → ℕ → ℕ
leads q f p n = rotate q p (f n)

-- ---- valid entries

-- by native n: it is kept; at depth 0 its string is p itself, above it has pivot support
abbrev pub valid_by : ℕ → (ℕ → ℕ) → ℕ → ℕ → ℕ → Bool
valid_by q f v p n = kept f n && cond (eqb (depth v) 0) (eqb (f n) p) (has_pivot q (f n))

-- The nonzero value v is a valid entry for the nonzero string p: its field is n + 1 for a kept native n; at depth 0 that native's string is p
-- itself; at a depth above 0 it has pivot support.
abbrev pub valid : ℕ → (ℕ → ℕ) → ℕ → ℕ → Bool
valid q f v p = cond (ltb 0 (field v) && ltb (field v) (natives + 1)) (valid_by q f v p (named v)) false
