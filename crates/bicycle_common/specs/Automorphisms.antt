-- Shift automorphisms: pairs modulo 6, the group Z6 x Z6. Assumes nothing.
use Rattle.std.specs.Prelude.{Bool, cond, ◌&&◌, ◌||◌, [], ◌∷◌, ℕ, ◌+◌, ◌-◌, ◌%◌, eqb}
use Rattle.bicycle_common.specs.declared.AutomorphismData.{AutomorphismData}
use Rattle.bicycle_common.specs.Refusals.{Told, answered}

-- a component, reduced
abbrev pub component : ℕ → ℕ
component n = n % 6

abbrev pub of_pair : ℕ → ℕ → AutomorphismData
of_pair x y = record { x = component x; y = component y }

abbrev pub product : AutomorphismData → AutomorphismData → AutomorphismData
product a b = of_pair (a.x + b.x) (a.y + b.y)

-- the inverse of a component: 0 inverts to 0
abbrev pub opposite : ℕ → ℕ
opposite n = component (6 - component n)

abbrev pub inverse : AutomorphismData → AutomorphismData
inverse a = record { x = opposite a.x; y = opposite a.y }

-- the components x and y are a and b
abbrev pub is_pair : ℕ → ℕ → ℕ → ℕ → Bool
is_pair x y a b = eqb x a && eqb y b

abbrev pub is_identity : AutomorphismData → Bool
is_identity a = is_pair (component a.x) (component a.y) 0 0

-- how many generators make the automorphism with the reduced components x and y: the original's cases, the first that fits
unfoldable pub generators : ℕ → ℕ → ℕ
generators x y =
    cond (is_pair x y 0 0) 0
    (cond (is_pair x y 1 0 || is_pair x y 0 1 || is_pair x y 5 0 || is_pair x y 0 5) 1
    (cond (is_pair x y 3 3 || is_pair x y 0 3 || is_pair x y 3 0) 2
    (cond (eqb x 3 || eqb y 3) 1
    2)))

-- what a caller is told of an automorphism
abbrev pub told_pair : AutomorphismData → Told
told_pair a = answered (a.x ∷ a.y ∷ [])
