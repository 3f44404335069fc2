-- The shifts of a plan, counted in its instructions, are 2 * (2 * count + 1): every native has two. Assumes nothing.
use mathlib.Core.List.{List, [], ◌∷◌}
use mathlib.Core.Path.{◌≡◌, refl}
use Prim.Native.Nat.{◌+◌, ◌*◌}
use native.Mathlib.Omega.{arith}
use lib.ListN.{length}
use Rattle.native_measurement.specs.declared.NativeNumber.{NativeNumber}
use Rattle.listing.specs.Listings.{shifts_of, rotation_shifts, shifts}

native_shifts : (n : NativeNumber) → shifts_of n ≡ 2
native_shifts n = refl

rotation_shifts_law : (ns : List NativeNumber) → rotation_shifts ns ≡ 4 * length ns
unfolding rotation_shifts
rotation_shifts_law [] = refl
rotation_shifts_law (n ∷ ns) = omega (arith, native_shifts n, rotation_shifts_law ns)

pub shifts_count : (base : NativeNumber) (ns : List NativeNumber) → shifts base ns ≡ 2 * (2 * length ns + 1)
shifts_count base ns = omega (arith, native_shifts base, rotation_shifts_law ns)
