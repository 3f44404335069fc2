-- What holds of native measurements, their numbers, their strings and which are kept, at the side of the architecture's matrices. Each is a
-- case of a law in `native_measurement`, `measurement` or `natives`, over any side where the side matters. Assumes nothing.
use Rattle.std.specs.Prelude.{◌≡◌, refl, false, ◌&&◌, List, ℕ, ◌+◌, ◌^◌, ◌<◌, ◌≤◌, Some}
use Rattle.std.proofs.Common.{lit<, le-ltb}
use Rattle.bicycle_common.specs.declared.Pauli.{Pauli}
use Rattle.bicycle_common.specs.declared.TwoBases.{TwoBases}
use Rattle.bicycle_common.specs.Letters.{bases_of}
use Rattle.bicycle_common.specs.Automorphisms.{of_pair}
use Rattle.bicycle_common.specs.Ranges.{listed}
use Rattle.pauli_string.specs.Strings.{qubits, letter_at}
use Rattle.pauli_string.specs.Answers.{told_string}
use Rattle.native_measurement.specs.declared.NativeMeasurement.{NativeMeasurement}
use Rattle.native_measurement.specs.Natives.{natives, native_of, number_of, all}
use Rattle.native_measurement.specs.Answers.{native_at, implementation_at, told_native, told_implementation}
use Rattle.native_measurement.proofs.Natives as Natives
use Rattle.measurement.specs.Matrices.{side, Matrix, is_bytes}
use Rattle.measurement.specs.Measures.{spread, native_string}
use Rattle.measurement.specs.Answers.{measures_bytes}
use Rattle.measurement.proofs.Strings as Strings
use Rattle.measurement.proofs.Letters as Letters
use Rattle.natives.specs.Kept.{Keeper}
use Rattle.natives.proofs.Kept as Kept

-- ---- numbers

-- a number gives a native measurement, which has that number
pub number_of_native : (n : ℕ) → n < natives → number_of (native_of n) ≡ n
number_of_native n h = Natives.number_native n h

-- and the other way round, for whatever the constructors of two bases and of an automorphism give
pub native_of_number : (p1 p7 : Pauli) (x y : ℕ) (b : TwoBases) → bases_of p1 p7 ≡ Some b
    → native_of (number_of (record { logical = b; automorphism = of_pair x y })) ≡ record { logical = b; automorphism = of_pair x y }
native_of_number p1 p7 x y b e = Natives.native_number p1 p7 x y b e

pub numbers_in_range : (m : NativeMeasurement) → number_of m < natives
numbers_in_range m = Natives.number_lt m

-- the numbers run in the order in which the original's loops list all natives
pub all_in_order : all ≡ listed native_of natives
all_in_order = Natives.all_natives

-- ---- strings

-- Letter 1 goes on qubits 0 to 5, letter 7 on qubits 6 to 11: where the letter has an X digit, qubit i of its half has that of the first
-- column of A of the inverse automorphism; where it has a Z digit, that of the first row of A(x,y).
pub letter_1_on_the_first_six : (mx my : Matrix) (n i : ℕ) → i < side
    → letter_at qubits (native_string side mx my n) i ≡ spread side mx my (native_of n) (native_of n).logical.p1 i
unfolding native_string
letter_1_on_the_first_six mx my n i h = Letters.measured_first side (lit< tt) mx my (native_of n) i h

pub letter_7_on_the_last_six : (mx my : Matrix) (n i : ℕ) → i < side
    → letter_at qubits (native_string side mx my n) (side + i) ≡ spread side mx my (native_of n) (native_of n).logical.p7 i
unfolding native_string
letter_7_on_the_last_six mx my n i h = Letters.measured_last side (lit< tt) mx my (native_of n) i h

pub native_strings_in_range : (mx my : Matrix) (n : ℕ) → native_string side mx my n < 4 ^ qubits
native_strings_in_range mx my n = Strings.native_lt side (lit< tt) mx my n

-- A(0,0) is the identity, so some native measures string 1, whatever the pair
pub string_1_is_native : (mx my : Matrix) → (n : ℕ) × (n < natives) × (native_string side mx my n ≡ 1)
string_1_is_native mx my = (3, lit< tt, Strings.native_one side (lit< tt) mx my)

-- ---- kept natives

-- exactly one native is kept for each native string, and it is the greatest
pub one_native_is_kept : (mx my : Matrix) (n : ℕ) → n < natives → (k : ℕ) × Keeper (native_string side mx my) n k
one_native_is_kept mx my n h = Kept.keeper (native_string side mx my) n h

-- ---- refusals

-- from 540 on a number is refused with 11
pub from_540_on_11 : (n : ℕ) → natives ≤ n → ((told_native (native_at n)).number ≡ 11) × ((told_implementation (implementation_at n)).number ≡ 11)
from_540_on_11 n h = simp (le-ltb n natives h) (refl, refl)

-- a pair that is no pair of 0/1 matrices is refused with 3, whatever the number
pub no_pair_3 : (mx my : List ℕ) (n : ℕ) → (is_bytes side mx && is_bytes side my) ≡ false → (told_string (measures_bytes side mx my n)).number ≡ 3
no_pair_3 mx my n e = rw e
