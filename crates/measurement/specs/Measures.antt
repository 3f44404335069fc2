-- The string that a native measures on the code of a matrix pair, over the side s; the string has 2 * s letters. Assumes nothing.
use Rattle.std.specs.Prelude.{List, ℕ, ◌+◌, ◌*◌, ◌^◌}
use Rattle.bicycle_common.specs.declared.Pauli.{Pauli}
use Rattle.bicycle_common.specs.declared.TwoBases.{TwoBases}
use Rattle.bicycle_common.specs.declared.AutomorphismData.{AutomorphismData}
use Rattle.bicycle_common.specs.Ranges.{sum}
use Rattle.bicycle_common.specs.Letters.{x_of, z_of, letter}
use Rattle.bicycle_common.specs.Automorphisms.{component, inverse}
use Rattle.native_measurement.specs.declared.NativeMeasurement.{NativeMeasurement}
use Rattle.native_measurement.specs.Natives.{native_of}
use Rattle.measurement.specs.Matrices.{Matrix, of_bytes, mul, pow}

-- A(x,y) = Mx^x · My^y modulo 2
unfoldable pub action : ℕ → Matrix → Matrix → AutomorphismData → Matrix
action s mx my a = mul s (pow s mx (component a.x)) (pow s my (component a.y))

-- s binary digits as a number, f i at digit i
unfoldable pub packed : ℕ → (ℕ → ℕ) → ℕ
packed s f = sum s (λ (i : ℕ). f i * 2 ^ i)

-- the first column and the first row of a matrix, as numbers
abbrev pub first_column : ℕ → Matrix → ℕ
first_column s m = packed s (λ (i : ℕ). m i 0)

abbrev pub first_row : ℕ → Matrix → ℕ
first_row s m = packed s (λ (j : ℕ). m 0 j)

-- X digits place c, Z digits place r: those of letter 1 on the first s qubits, those of letter 7 on the last s
unfoldable pub placed : ℕ → ℕ → ℕ → ℕ → ℕ → ℕ → ℕ → ℕ
placed s c r x1 z1 x7 z7 = c * (x1 + 2 ^ s * x7) + 2 ^ (2 * s) * (r * (z1 + 2 ^ s * z7))

abbrev pub placed_by : ℕ → ℕ → ℕ → TwoBases → ℕ
placed_by s c r b = placed s c r (x_of b.p1) (z_of b.p1) (x_of b.p7) (z_of b.p7)

-- a native's X letters place the first column of A of the inverse automorphism; its Z letters place the first row of A(x,y)
unfoldable pub measured : ℕ → Matrix → Matrix → NativeMeasurement → ℕ
measured s mx my m =
    placed_by s (first_column s (action s mx my (inverse m.automorphism))) (first_row s (action s mx my m.automorphism)) m.logical

-- letter by letter: what a letter p of the native puts on place i of its half
abbrev pub spread : ℕ → Matrix → Matrix → NativeMeasurement → Pauli → ℕ → Pauli
spread s mx my m p i = letter (x_of p * action s mx my (inverse m.automorphism) i 0) (z_of p * action s mx my m.automorphism 0 i)

unfoldable pub native_string : ℕ → Matrix → Matrix → ℕ → ℕ
native_string s mx my n = measured s mx my (native_of n)

-- of a pair of matrices as bytes
abbrev pub pair_string : ℕ → List ℕ → List ℕ → ℕ → ℕ
pair_string s mx my = native_string s (of_bytes s mx) (of_bytes s my)
