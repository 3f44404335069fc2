-- A number that is no native's is refused like the first that is none, which is passed on for it. Assumes nothing.
use mathlib.Core.Bool.{Bool, true, false, cond, ◌&&◌}
use mathlib.Core.List.{List}
use mathlib.Core.Path.{◌≡◌, refl, ap, ◌∙◌}
use Prim.Native.Nat.{ℕ}
use lib.Dec.{ltb}
use Rattle.std.specs.Prelude.{Result, Ok, Err}
use Rattle.bicycle_common.specs.declared.Refusal.{Refusal}
use Rattle.bicycle_common.specs.declared.Refusal.TheVariants.{Matrix, NativeRange}
use Rattle.bicycle_common.specs.Letters.{anticommuting_letters}
use Rattle.pauli_string.specs.declared.PauliString.{PauliString}
use Rattle.pauli_string.specs.Strings.{letter_at}
use Rattle.pauli_string.specs.Answers.{string}
use Rattle.native_measurement.specs.Natives.{natives, native_of}
use Rattle.native_measurement.specs.Answers.{implementation, implementation_at}
use Rattle.measurement.specs.Matrices.{is_bytes}
use Rattle.measurement.specs.Measures.{pair_string}
use Rattle.measurement.specs.Answers.{measures_bytes}
use Rattle.compile.specs.Expansions.{around, rotation_by, rotation_if, rotation_instructions}
use Rattle.bicycle.specs.Flat.{narrow}

-- what is answered of the natives, and refused of other numbers
module _ {A : Type 0} (f : ℕ → A) (r : A) (n : ℕ) where
  narrow_by : (t : Bool) → ltb n natives ≡ t → cond (ltb (cond t n natives) natives) (f (cond t n natives)) r ≡ cond t (f n) r
  narrow_by true e = rw e
  narrow_by false e = refl

  narrow_same : cond (ltb (narrow n) natives) (f (narrow n)) r ≡ cond (ltb n natives) (f n) r
  narrow_same = narrow_by (ltb n natives) refl

pub implementation_narrow : (n : ℕ) → implementation_at (narrow n) ≡ implementation_at n
implementation_narrow n = narrow_same (λ (k : ℕ). implementation (native_of k)) (Err NativeRange) n

module _ (s : ℕ) (mx my : List ℕ) (n : ℕ) where
  pub measures_narrow : measures_bytes s mx my (narrow n) ≡ measures_bytes s mx my n
  measures_narrow = ap (λ (a : Result PauliString Refusal). cond (is_bytes s mx && is_bytes s my) a (Err Matrix)) (narrow_same (λ (k : ℕ). string (pair_string s mx my k)) (Err NativeRange) n)

  by_string : (q : ℕ) (a : Result PauliString Refusal) → rotation_if q (narrow n) a ≡ rotation_if q n a
  unfolding rotation_by
  by_string q (Ok p) = ap (around (anticommuting_letters (letter_at q p.0 0))) (implementation_narrow n)
  by_string q (Err r) = refl

  pub rotation_narrow : (q : ℕ) → rotation_instructions q s mx my (narrow n) ≡ rotation_instructions q s mx my n
  unfolding rotation_instructions
  rotation_narrow q = by_string q (measures_bytes s mx my (narrow n)) ∙ ap (rotation_if q n) measures_narrow
