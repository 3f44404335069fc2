-- What a good reading tells, by cases: every test was passed and every part was good. Assumes nothing.
use Rattle.std.specs.Prelude.{Result, Ok, Err}
use mathlib.Core.Path.{◌≡◌, refl, subst}
use mathlib.Core.Bool.{Bool, true, false, cond, ◌&&◌, and-eq-true_iff}
use mathlib.Core.List.{List}
use Prim.Native.Nat.{ℕ, ◌*◌, ◌<◌}
use native.Mathlib.Omega.{arith}
use lib.Dec.{eqb, ltb}
use lib.ListN.{length}
use borrow.Author.Tests.{ltb-true}
use Rattle.bicycle_common.specs.declared.Refusal.{Refusal}
use Rattle.bicycle_common.specs.declared.Refusal.TheVariants.{Matrix, NativeRange, PlanInput}
use Rattle.bicycle_common.specs.Bytes.{digit_numbers}
use Rattle.text.specs.Decimals.{all_digits, number_in, is_number}
use Rattle.native_measurement.specs.declared.NativeNumber.{NativeNumber}
use Rattle.native_measurement.specs.Natives.{natives}
use Rattle.measurement.specs.Matrices.{side, is_bytes}
use Rattle.reader.specs.Lines.{is_line, value_in}
use Rattle.text.specs.Reads.{on}
use Rattle.reader.specs.Plans.{matrix_line, in_range, native_line}

-- ---- in general

pub good_same : {A : Type 0} (a b : A) → ◌≡◌ {A = Result A Refusal} (Ok a) (Ok b) → a ≡ b
good_same a b z = cc

-- what stands behind a test
pub passed : {A : Type 0} (t : Bool) (x : Result A Refusal) (r : Refusal) (a : A) → cond t x (Err r) ≡ Ok a → (t ≡ true) × (x ≡ Ok a)
passed true x r a z = (refl, z)
passed false x r a z = let n : ◌≡◌ {A = ℕ} 0 1 = cc in absurd (omega arith)

pub passed_not : {A : Type 0} (t : Bool) (x : Result A Refusal) (r : Refusal) (a : A) → cond t (Err r) x ≡ Ok a → (t ≡ false) × (x ≡ Ok a)
passed_not true x r a z = let n : ◌≡◌ {A = ℕ} 0 1 = cc in absurd (omega arith)
passed_not false x r a z = (refl, z)

-- what is read after another thing
pub both_good : {A B : Type 0} (x : Result A Refusal) (next : A → Result B Refusal) (b : B) → on x next ≡ Ok b → (a : A) × (x ≡ Ok a) × (next a ≡ Ok b)
both_good (Ok a) next b z = (a, refl, z)
both_good (Err r) next b z = let n : ◌≡◌ {A = ℕ} 0 1 = cc in absurd (omega arith)

-- ---- one line

module _ (name l : List ℕ) where
  -- a line with a native: a name and a number below 540
  native_passed : (n : NativeNumber) → native_line name l ≡ Ok n
      → (is_line name l && is_number (value_in name l) ≡ true) × (in_range (number_in (value_in name l)) ≡ Ok n)
  unfolding native_line
  native_passed n z = passed (is_line name l && is_number (value_in name l)) (in_range (number_in (value_in name l))) PlanInput n z

  pub native_small : (n : NativeNumber) → native_line name l ≡ Ok n → n.0 < natives
  native_small n z =
      let v : ℕ = number_in (value_in name l) in
      let p = passed (ltb v natives) (Ok (record { 0 = v })) NativeRange n (native_passed n z).1 in
      subst (λ (m : NativeNumber). m.0 < natives) (good_same (record { 0 = v }) n p.1) (ltb-true v natives p.0)

  -- a line with a matrix: a name and 36 digits, none over 1
  matrix_passed : (m : List ℕ) → matrix_line name l ≡ Ok m
      → (is_line name l && eqb (length (value_in name l)) (side * side) && all_digits (value_in name l) ≡ true)
      × (cond (is_bytes side (digit_numbers (value_in name l))) (Ok (digit_numbers (value_in name l))) (Err Matrix) ≡ Ok m)
  unfolding matrix_line
  matrix_passed m z =
      passed (is_line name l && eqb (length (value_in name l)) (side * side) && all_digits (value_in name l))
      (cond (is_bytes side (digit_numbers (value_in name l))) (Ok (digit_numbers (value_in name l))) (Err Matrix)) PlanInput m z

  pub matrix_shape : (m : List ℕ) → matrix_line name l ≡ Ok m → (is_line name l ≡ true) × (all_digits (value_in name l) ≡ true)
  matrix_shape m z =
      let v = value_in name l in
      let a = (and-eq-true_iff (is_line name l && eqb (length v) (side * side)) (all_digits v)).0 (matrix_passed m z).0 in
      (((and-eq-true_iff (is_line name l) (eqb (length v) (side * side))).0 a.0).0, a.1)

  pub matrix_good : (m : List ℕ) → matrix_line name l ≡ Ok m → is_bytes side m ≡ true
  matrix_good m z =
      let d : List ℕ = digit_numbers (value_in name l) in
      let p = passed (is_bytes side d) (Ok d) Matrix m (matrix_passed m z).1 in
      subst (λ (k : List ℕ). is_bytes side k ≡ true) (good_same d m p.1) p.0
