-- Shift automorphisms are a commutative group: each law is arithmetic modulo 6 in both components. Assumes nothing.
use mathlib.Core.Path.{◌≡◌, ap₂}
use Prim.Native.Nat.{ℕ}
use native.Mathlib.Omega.{arith}
use Rattle.bicycle_common.specs.declared.AutomorphismData.{AutomorphismData}
use Rattle.bicycle_common.specs.Automorphisms.{of_pair, product, inverse}

pub pair : {x x' y y' : ℕ} → x ≡ x' → y ≡ y' → ◌≡◌ {A = AutomorphismData} (record { x = x; y = y }) (record { x = x'; y = y' })
pair e f = ap₂ (λ (a b : ℕ). record { x = a; y = b }) e f

pub product_comm : (a b : AutomorphismData) → product a b ≡ product b a
product_comm a b = pair (omega arith) (omega arith)

pub product_assoc : (a b c : AutomorphismData) → product (product a b) c ≡ product a (product b c)
product_assoc a b c = pair (omega arith) (omega arith)

pub product_identity : (a : AutomorphismData) → product a (of_pair 0 0) ≡ of_pair a.x a.y
product_identity a = pair (omega arith) (omega arith)

pub product_inverse : (a : AutomorphismData) → product a (inverse a) ≡ of_pair 0 0
product_inverse a = pair (omega arith) (omega arith)

pub inverse_inverse : (a : AutomorphismData) → inverse (inverse a) ≡ of_pair a.x a.y
inverse_inverse a = pair (omega arith) (omega arith)
