-- What is known once a table and a pair are given. Assumes nothing.
use mathlib.Core.Path.{◌≡◌, refl}
use mathlib.Core.Bool.{Bool, true, false, cond, ◌&&◌, and-eq-true_iff}
use mathlib.Core.List.{List}
use Prim.Native.Nat.{ℕ}
use Rattle.std.specs.Prelude.{Result, Ok, Err}
use native.Mathlib.Omega.{arith}
use lib.ListN.{length}
use borrow.Author.Tests.{eqb-true, eq-eqb}
use Rattle.bicycle_common.specs.declared.Refusal.{Refusal}
use Rattle.bicycle_common.specs.declared.Refusal.TheVariants.{TableLength, Matrix}
use Rattle.measurement.specs.Matrices.{is_bytes}
use Rattle.table.specs.Bytes.{table_length}
use Rattle.table.specs.Answers.{is_table, given}

both : (a b : Bool) (r s : Refusal) → ◌≡◌ {A = Result (Unit {0}) Refusal} (cond a (cond b (Ok tt) (Err s)) (Err r)) (Ok tt) → (a ≡ true) × (b ≡ true)
both true true r s z = (refl, refl)
both true false r s z = let n : ◌≡◌ {A = ℕ} 0 1 = cc in absurd (omega arith)
both false b r s z = let n : ◌≡◌ {A = ℕ} 0 1 = cc in absurd (omega arith)

-- the table has its length, and both matrices are matrices
pub given_done : (q s : ℕ) (t mx my : List ℕ) → given q s t mx my ≡ Ok tt → (length t ≡ table_length q) × (is_bytes s mx ≡ true) × (is_bytes s my ≡ true)
given_done q s t mx my z =
    let b = both (is_table q t) (is_bytes s mx && is_bytes s my) TableLength Matrix z in
    let m = (and-eq-true_iff (is_bytes s mx) (is_bytes s my)).0 b.1 in
    (eqb-true (length t) (table_length q) b.0, m.0, m.1)

pub is_given : (q s : ℕ) (t mx my : List ℕ) → length t ≡ table_length q → is_bytes s mx ≡ true → is_bytes s my ≡ true → given q s t mx my ≡ Ok tt
is_given q s t mx my e x y = rw (eq-eqb (length t) (table_length q) e, x, y)
