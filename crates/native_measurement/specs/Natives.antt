-- The native measurements and their numbers, n = 15 * (6 * x + y) + k. Assumes nothing.
use Rattle.std.specs.Prelude.{Option, Some, None}
use mathlib.Core.List.{List, [], ◌∷◌, map, flat_map}
use Rattle.std.specs.Prelude.{ℕ, ◌+◌, ◌-◌, ◌*◌, ◌/◌, ◌%◌}
use Rattle.bicycle_common.specs.declared.Pauli.{Pauli}
use Rattle.bicycle_common.specs.declared.Pauli.TheVariants.{I, X, Z, Y}
use Rattle.bicycle_common.specs.declared.TwoBases.{TwoBases}
use Rattle.bicycle_common.specs.declared.AutomorphismData.{AutomorphismData}
use Rattle.bicycle_common.specs.Letters.{letter, rank, bases_of}
use Rattle.bicycle_common.specs.Automorphisms.{component, of_pair}
use Rattle.native_measurement.specs.declared.NativeMeasurement.{NativeMeasurement}

-- 15 pairs of letters for each of 36 automorphisms
abbrev pub natives : ℕ
natives = 540

-- ---- from a number

-- the letter at a place of the order I, X, Z, Y
abbrev pub of_rank : ℕ → Pauli
of_rank r = letter (r % 2) (r / 2)

-- the 15 pairs other than (I,I), first letter slowest: the places of pair k are the digits of k + 1 to the base 4
abbrev pub bases_at : ℕ → TwoBases
bases_at k = record { p1 = of_rank ((k + 1) / 4); p7 = of_rank ((k + 1) % 4) }

abbrev pub automorphism_at : ℕ → AutomorphismData
automorphism_at a = of_pair (a / 6) (a % 6)

unfoldable pub native_of : ℕ → NativeMeasurement
native_of n = record { logical = bases_at (n % 15); automorphism = automorphism_at (n / 15) }

-- ---- and back

-- the number k of two bases; 0 also for (I,I), which no `TwoBases` is
abbrev pub pair_number : TwoBases → ℕ
pair_number b = 4 * rank b.p1 + rank b.p7 - 1

unfoldable pub number_of : NativeMeasurement → ℕ
number_of m = 15 * (6 * component m.automorphism.x + component m.automorphism.y) + pair_number m.logical

-- ---- all of them, by the loops of the original, over the letters in order and over the components

abbrev pub in_order : List Pauli
in_order = I ∷ X ∷ Z ∷ Y ∷ []

abbrev pub components : List ℕ
components = 0 ∷ 1 ∷ 2 ∷ 3 ∷ 4 ∷ 5 ∷ []

abbrev pub pushed : Option TwoBases → List TwoBases
pushed (Some b) = b ∷ []
pushed None = []

unfoldable pub all_bases : List TwoBases
all_bases = flat_map (λ (p1 : Pauli). flat_map (λ (p7 : Pauli). pushed (bases_of p1 p7)) in_order) in_order

unfoldable pub all : List NativeMeasurement
all =
    flat_map
    (λ (x : ℕ). flat_map
    (λ (y : ℕ). map (λ (b : TwoBases). record { logical = b; automorphism = of_pair x y }) all_bases) components)
    components
