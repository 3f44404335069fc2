-- What is promised of expansions: a native expands to aut, meas, inverse aut; a rotation adds one meas before and one after, with the two
-- letters that anticommute with its string's pivot letter; and each refusal is given exactly where document 01 says. Assumes nothing.
use Rattle.bicycle_common.specs.declared.BicycleISA.{BicycleISA}
use Rattle.bicycle_common.specs.declared.Refusal.{Refusal}
use Rattle.std.specs.Prelude.{true, false, not, ◌&&◌, List, [], ◌∷◌, ◌≡◌, refl, ℕ, ◌≤◌, ◌<◌, Result, Ok, Err}
use Rattle.std.proofs.Common.{true≢false, ◌∙◌, arith}
use Rattle.std.proofs.Math.Path.{sym, ap, subst}
use borrow.Author.Tests.{lt-ltb, le-ltb}
use Rattle.bicycle_common.specs.declared.Pauli.{Pauli}
use Rattle.bicycle_common.specs.declared.Pauli.TheVariants.{I, X, Z, Y}
use Rattle.bicycle_common.specs.declared.BicycleISA.TheVariants.{Automorphism, Measure}
use Rattle.bicycle_common.specs.declared.Refusal.TheVariants.{Matrix as NoMatrix, PivotIdentity, NativeRange}
use Rattle.bicycle_common.specs.Refusals.{refused}
use Rattle.bicycle_common.specs.Letters.{is_i, rank, same, clash, anticommuting_letters}
use Rattle.bicycle_common.specs.Automorphisms.{inverse}
use Rattle.pauli_string.specs.Strings.{qubits, letter_at, has_pivot}
use Rattle.native_measurement.specs.Natives.{natives, native_of}
use Rattle.native_measurement.specs.Answers.{implementation_at, told_implementation}
use Rattle.measurement.specs.Matrices.{side, is_bytes}
use Rattle.measurement.specs.Measures.{pair_string}
use Rattle.measurement.specs.Answers.{measures_bytes}
use Rattle.compile.proofs.Expansions.{with_string}
use Rattle.compile.specs.Expansions.{alone, around, rotation_by, rotation_instructions, told_rotation}

-- ---- a native

-- aut, meas, inverse aut
abbrev pub three : ℕ → Result (List BicycleISA) Refusal
three n = Ok (Automorphism (native_of n).automorphism ∷ Measure (native_of n).logical ∷ Automorphism (inverse (native_of n).automorphism) ∷ [])

pub native_expands : (n : ℕ) → n < natives → implementation_at n ≡ three n
native_expands n h = simp (lt-ltb n natives h)

pub no_native : (n : ℕ) → natives ≤ n → told_implementation (implementation_at n) ≡ refused 9 NativeRange
no_native n h = simp (le-ltb n natives h)

-- ---- a rotation

-- the two letters of a rotation whose string has the letter l on the pivot: both anticommute with l, and the first comes before the second in
-- the order I, X, Z, Y
pub record TwoLetters (l p0 p1 : Pauli) : Type 0 where
  pub first : clash l p0 ≡ true
  pub second : clash l p1 ≡ true
  pub ordered : rank p0 < rank p1

-- the rotation r by native n is the native's instructions between a meas of one letter and a meas of the other, on the first pivot alone
pub record Expands (n : ℕ) (l : Pauli) (r : Result (List BicycleISA) Refusal) : Type 0 where
  pub before : Pauli
  pub after : Pauli
  pub letters : TwoLetters l before after
  pub instructions : r
      ≡ Ok (alone before ∷ Automorphism (native_of n).automorphism ∷ Measure (native_of n).logical ∷ Automorphism (inverse (native_of n).automorphism) ∷ alone after ∷ [])

-- by the pivot letter
without_letter : (i : Result (List BicycleISA) Refusal) (l : Pauli) → not (is_i l) ≡ false → around (anticommuting_letters l) i ≡ Err PivotIdentity
without_letter i I e = refl
without_letter i X e = absurd (true≢false e)
without_letter i Z e = absurd (true≢false e)
without_letter i Y e = absurd (true≢false e)

with_letter : (n : ℕ) (l : Pauli) → not (is_i l) ≡ true → Expands n l (around (anticommuting_letters l) (three n))
unfolding clash same rank
with_letter n I e = absurd (true≢false (sym e))
with_letter n X e = record { before = Z; after = Y; letters = record { first = refl; second = refl; ordered = omega arith }; instructions = refl }
with_letter n Z e = record { before = X; after = Y; letters = record { first = refl; second = refl; ordered = omega arith }; instructions = refl }
with_letter n Y e = record { before = X; after = Z; letters = record { first = refl; second = refl; ordered = omega arith }; instructions = refl }

module _ (mx my : List ℕ) (n : ℕ) where
  -- the string of the native, and what its rotation expands to
  abbrev string : ℕ
  string = pair_string side mx my n

  abbrev rotation : Result (List BicycleISA) Refusal
  rotation = rotation_instructions qubits side mx my n

  -- 3 where one of the two is no matrix
  pub rotation_3 : (is_bytes side mx && is_bytes side my) ≡ false → told_rotation rotation ≡ refused 15 NoMatrix
  unfolding rotation_instructions
  rotation_3 e = rw e

  module _ (good : (is_bytes side mx && is_bytes side my) ≡ true) where
    -- then 11 where n is no native
    pub rotation_11 : natives ≤ n → told_rotation rotation ≡ refused 15 NativeRange
    unfolding rotation_instructions
    rotation_11 h = rw (good, le-ltb n natives h)

    module _ (h : n < natives) where
      by_string : rotation ≡ around (anticommuting_letters (letter_at qubits string 0)) (implementation_at n)
      unfolding rotation_by
      by_string =
          let e : measures_bytes side mx my n ≡ Ok (record { 0 = string }) = rw (good, lt-ltb n natives h) in
          sym (with_string qubits side mx my n (record { 0 = string }) e)

      -- or 10 where its string has no letter on the pivot
      pub rotation_10 : has_pivot qubits string ≡ false → told_rotation rotation ≡ refused 15 PivotIdentity
      unfolding has_pivot
      rotation_10 e = ap told_rotation (by_string ∙ without_letter (implementation_at n) (letter_at qubits string 0) e)

      -- else the five instructions
      pub rotation_expands : has_pivot qubits string ≡ true → Expands n (letter_at qubits string 0) rotation
      unfolding has_pivot
      rotation_expands e =
          let l = letter_at qubits string 0 in
          subst (Expands n l) (sym (by_string ∙ ap (around (anticommuting_letters l)) (native_expands n h))) (with_letter n l e)
