-- A native measurement and its number: each gives the other, and the numbers follow the order of the original's loops. By the digits of
-- the number, and by computing the loops. Assumes nothing.
use Rattle.std.specs.Prelude.{Option, Some, None, Ok, Err}
use mathlib.Core.Path.{◌≡◌, refl, sym, ap, ap₂, ◌∙◌}
use mathlib.Core.Bool.{Bool, true, false, cond, ◌&&◌}
use mathlib.Core.List.{flat_map}
use Prim.Native.Nat.{ℕ, zero, suc, ◌+◌, ◌-◌, ◌*◌, ◌/◌, ◌%◌, ◌<◌}
use native.Mathlib.Omega.{arith}
use lib.Dec.{ltb}
use Rattle.bicycle_common.specs.declared.Pauli.{Pauli}
use Rattle.bicycle_common.specs.declared.Pauli.TheVariants.{I, X, Z, Y}
use Rattle.bicycle_common.specs.declared.TwoBases.{TwoBases}
use Rattle.bicycle_common.specs.Ranges.{list_from, listed}
use Rattle.bicycle_common.specs.Letters.{rank, is_i, bases_of}
use Rattle.bicycle_common.specs.declared.AutomorphismData.{AutomorphismData}
use Rattle.bicycle_common.specs.declared.Refusal.{Refusal}
use Rattle.bicycle_common.specs.declared.Refusal.TheVariants.{NativeRange}
use Rattle.bicycle_common.specs.Automorphisms.{of_pair}
use Rattle.native_measurement.specs.declared.NativeMeasurement.{NativeMeasurement}
use Rattle.native_measurement.specs.Answers.{native_at}
use Rattle.native_measurement.specs.Natives.{natives, of_rank, native_of, pair_number, number_of, all_bases, all}

-- ---- places of letters

pub rank_lt : (l : Pauli) → rank l < 4
unfolding rank
rank_lt I = omega arith
rank_lt X = omega arith
rank_lt Z = omega arith
rank_lt Y = omega arith

pub pair_lt : {k : ℕ} (b : TwoBases) → k ≡ pair_number b → k < 15
pair_lt b e = omega (arith, rank_lt b.p1, rank_lt b.p7)

pub letter_rank : (l : Pauli) → of_rank (rank l) ≡ l
unfolding rank
letter_rank I = refl
letter_rank X = refl
letter_rank Z = refl
letter_rank Y = refl

pub rank_letter : (r : ℕ) → r < 4 → rank (of_rank r) ≡ r
unfolding rank
rank_letter zero h = refl
rank_letter (suc zero) h = refl
rank_letter (suc (suc zero)) h = refl
rank_letter (suc (suc (suc zero))) h = refl
rank_letter (suc (suc (suc (suc r)))) h = absurd (omega arith)

rank_pos : (l : Pauli) → is_i l ≡ false → 0 < rank l
unfolding rank
rank_pos I e = let z : ◌≡◌ {A = ℕ} 0 1 = cc in omega arith
rank_pos X e = omega arith
rank_pos Z e = omega arith
rank_pos Y e = omega arith

-- the places of two bases are not both 0
pair_pos : (a b : Pauli) → (is_i a && is_i b) ≡ false → 0 < 4 * rank a + rank b
pair_pos a b e = go (is_i a) refl
  where
    go : (t : Bool) → is_i a ≡ t → 0 < 4 * rank a + rank b
    go true q = omega (arith, rank_pos b (ap (λ (t : Bool). t && is_i b) (sym q) ∙ e))
    go false q = omega (arith, rank_pos a q)

pair_zero : (a b : Pauli) → (is_i a && is_i b) ≡ true → 4 * rank a + rank b ≡ 0
unfolding rank
pair_zero I I e = refl
pair_zero I X e = cc
pair_zero I Z e = cc
pair_zero I Y e = cc
pair_zero X b e = cc
pair_zero Z b e = cc
pair_zero Y b e = cc

-- ---- numbers

pub number_lt : (m : NativeMeasurement) → number_of m < natives
unfolding number_of
number_lt m = omega (arith, rank_lt m.logical.p1, rank_lt m.logical.p7)

-- ---- the digits of a number

digits_15 : (m k : ℕ) → k < 15 → ((15 * m + k) / 15 ≡ m) × ((15 * m + k) % 15 ≡ k)
digits_15 m k h = (omega arith, omega arith)

digits_6 : (i j : ℕ) → i < 6 → j < 6 → ((6 * i + j) / 6 % 6 ≡ i) × ((6 * i + j) % 6 % 6 ≡ j)
digits_6 i j hi hj = (omega arith, omega arith)

digits_4 : (a b : ℕ) → a < 4 → b < 4 → 0 < 4 * a + b → ((4 * a + b - 1 + 1) / 4 ≡ a) × ((4 * a + b - 1 + 1) % 4 ≡ b)
digits_4 a b ha hb h = let e : 4 * a + b - 1 + 1 ≡ 4 * a + b = omega arith in rw e (omega arith, omega arith)

pair_back : (k : ℕ) → 4 * ((k + 1) / 4) + (k + 1) % 4 - 1 ≡ k
pair_back k = omega arith

components_back : (m : ℕ) → m < 36 → 6 * (m / 6 % 6 % 6) + m % 6 % 6 % 6 ≡ m
components_back m h = omega arith

-- ---- there and back

pub number_native : (n : ℕ) → n < natives → number_of (native_of n) ≡ n
unfolding number_of native_of
number_native n h =
    let a : rank (of_rank ((n % 15 + 1) / 4)) ≡ (n % 15 + 1) / 4 = rank_letter _ (omega arith) in
    let b : rank (of_rank ((n % 15 + 1) % 4)) ≡ (n % 15 + 1) % 4 = rank_letter _ (omega arith) in
    let e : 15 * (n / 15) + n % 15 ≡ n = omega arith in
    ap₂ (λ (m k : ℕ). 15 * m + k) (components_back (n / 15) (omega arith)) (ap₂ (λ (r t : ℕ). 4 * r + t - 1) a b ∙ pair_back (n % 15)) ∙ e

native_of_digits : (p q : Pauli) (i j : ℕ) → 0 < 4 * rank p + rank q → i < 6 → j < 6
    → native_of (15 * (6 * i + j) + (4 * rank p + rank q - 1)) ≡ record { logical = record { p1 = p; p7 = q }; automorphism = record { x = i; y = j } }
unfolding native_of
native_of_digits p q i j h hi hj =
    let d = digits_15 (6 * i + j) (4 * rank p + rank q - 1) (omega (arith, rank_lt p, rank_lt q)) in
    let c = digits_6 i j hi hj in
    let l = digits_4 (rank p) (rank q) (rank_lt p) (rank_lt q) h in
    rw (d.0, d.1, c.0, c.1, l.0, l.1, letter_rank p, letter_rank q)

abbrev made : Pauli → Pauli → ℕ → ℕ → NativeMeasurement
made p q x y = record { logical = record { p1 = p; p7 = q }; automorphism = of_pair x y }

native_made : (p q : Pauli) (x y : ℕ) → (is_i p && is_i q) ≡ false → native_of (number_of (made p q x y)) ≡ made p q x y
unfolding number_of
native_made p q x y e =
    let i : x % 6 % 6 ≡ x % 6 = omega arith in
    let j : y % 6 % 6 ≡ y % 6 = omega arith in
    rw (i, j) (native_of_digits p q (x % 6) (y % 6) (pair_pos p q e) (omega arith) (omega arith))

-- ---- two bases, as their constructor answers them

module _ (p q : Pauli) where
  abbrev answer : Bool → Option TwoBases
  answer t = cond t None (Some (record { p1 = p; p7 = q }))

  bases_by : (t : Bool) (b : TwoBases) → answer t ≡ Some b → (t ≡ false) × (record { p1 = p; p7 = q } ≡ b)
  bases_by true b e = let z : None ≡ Some b = e in (cc, cc)
  bases_by false b e = let z : Some (record { p1 = p; p7 = q }) ≡ Some b = e in (refl, cc)

  bases : (b : TwoBases) → bases_of p q ≡ Some b → ((is_i p && is_i q) ≡ false) × (record { p1 = p; p7 = q } ≡ b)
  bases b e = bases_by (is_i p && is_i q) b e

  both_by : (t : Bool) → answer t ≡ None → t ≡ true
  both_by true e = refl
  both_by false e = cc

-- the letters of pair k + 1 are not both the identity
pub pair_bases : (n : ℕ) (p q : Pauli) → p ≡ of_rank ((n % 15 + 1) / 4) → q ≡ of_rank ((n % 15 + 1) % 4) → bases_of p q ≡ None → ⊥
pair_bases n p q ep eq e =
    let a : rank p ≡ (n % 15 + 1) / 4 = ap rank ep ∙ rank_letter _ (omega arith) in
    let b : rank q ≡ (n % 15 + 1) % 4 = ap rank eq ∙ rank_letter _ (omega arith) in
    let z = pair_zero p q (both_by p q (is_i p && is_i q) e) in
    omega arith

pub native_bases : (n : ℕ) (p q : Pauli) (b : TwoBases) → p ≡ of_rank ((n % 15 + 1) / 4) → q ≡ of_rank ((n % 15 + 1) % 4) → bases_of p q ≡ Some b
    → (a : AutomorphismData) → a ≡ of_pair (n / 15 / 6) (n / 15 % 6) → record { logical = b; automorphism = a } ≡ native_of n
unfolding native_of
native_bases n p q b ep eq e a ea = rw (← (bases p q b e).1, ep, eq, ea)

-- whatever the constructors of two bases and of an automorphism give
pub native_number : (p q : Pauli) (x y : ℕ) (b : TwoBases) → bases_of p q ≡ Some b
    → native_of (number_of (record { logical = b; automorphism = of_pair x y })) ≡ record { logical = b; automorphism = of_pair x y }
native_number p q x y b e = let r = bases p q b e in rw (← r.1) (native_made p q x y r.0)

-- ---- what the calls answer

none_by : (n : ℕ) (r : Refusal) (t : Bool) → cond t (Ok (native_of n)) (Err NativeRange) ≡ Err r → t ≡ false
none_by n r true e = cc
none_by n r false e = refl

some_by : (n : ℕ) (m : NativeMeasurement) (t : Bool) → cond t (Ok (native_of n)) (Err NativeRange) ≡ Ok m
    → (t ≡ true) × (native_of n ≡ m)
some_by n m true e = (refl, cc)
some_by n m false e = (cc, cc)

-- what an answer tells of the number
pub native_none : (n : ℕ) (r : Refusal) → native_at n ≡ Err r → ltb n natives ≡ false
native_none n r e = none_by n r (ltb n natives) e

pub native_some : (n : ℕ) (m : NativeMeasurement) → native_at n ≡ Ok m → (ltb n natives ≡ true) × (native_of n ≡ m)
native_some n m e = some_by n m (ltb n natives) e

-- ---- all natives, in the order of the original's loops

pub all_natives : all ≡ listed native_of natives
unfolding rank all all_bases flat_map native_of list_from
all_natives = refl
