-- A rule of binary digits, or of letters, proved at all of them by one test that antt computes. Assumes nothing.
use mathlib.Core.Bool.{Bool, true, false, ◌&&◌}
use Prim.Native.Nat.{ℕ, zero, suc, ◌<◌}
use native.Mathlib.Nat.{le_of_suc-le-suc, not-suc-le-zero}
use lib.Dec.{T}
use Rattle.bicycle_common.specs.declared.Pauli.{Pauli}
use Rattle.bicycle_common.specs.declared.Pauli.TheVariants.{I, X, Z, Y}

pub left : (a b : Bool) → T (a && b) → T a
left true b t = tt
left false b t = t

pub right : (a b : Bool) → T (a && b) → T b
right true b t = t
right false b t = absurd t

-- at both digits
abbrev pub bits : (ℕ → Bool) → Bool
bits f = f 0 && f 1

pub at_bit : (f : ℕ → Bool) → T (bits f) → (b : ℕ) → b < 2 → T (f b)
at_bit f t zero h = left (f 0) (f 1) t
at_bit f t (suc zero) h = right (f 0) (f 1) t
at_bit f t (suc (suc b)) h = absurd (not-suc-le-zero (le_of_suc-le-suc (le_of_suc-le-suc h)))

-- at all four letters
abbrev pub letters : (Pauli → Bool) → Bool
letters f = (f I && f X) && (f Z && f Y)

pub at_letter : (f : Pauli → Bool) → T (letters f) → (l : Pauli) → T (f l)
at_letter f t I = left (f I) (f X) (left (f I && f X) (f Z && f Y) t)
at_letter f t X = right (f I) (f X) (left (f I && f X) (f Z && f Y) t)
at_letter f t Z = left (f Z) (f Y) (right (f I && f X) (f Z && f Y) t)
at_letter f t Y = right (f Z) (f Y) (right (f I && f X) (f Z && f Y) t)
