-- The strings that natives measure: they depend on the numbers of the matrices alone, are below 4 ^ (2 * s), and string 1 is always among
-- them. Assumes nothing.
use Rattle.std.specs.Prelude.{Ok, Err}
use mathlib.Core.Path.{◌≡◌, refl, sym, ap, ap₂, ◌∙◌}
use mathlib.Core.Bool.{Bool, true, cond, ◌&&◌, and-eq-true_iff}
use mathlib.Core.List.{List}
use Prim.Native.Nat.{ℕ, zero, suc, ◌+◌, ◌-◌, ◌*◌, ◌^◌, ◌<◌, ◌≤◌}
use native.Mathlib.Nat.{mul-le-mul, mul-add, add-mul, mul-one}
use native.Mathlib.Omega.{arith}
use lib.Dec.{eqb, ltb}
use lib.Pow.{pow-add}
use lib.ListN.{length, get_or}
use borrow.Author.Tests.{eqb-true, ne_eqb}
use Rattle.bicycle_common.specs.declared.Pauli.{Pauli}
use Rattle.bicycle_common.specs.declared.AutomorphismData.{AutomorphismData}
use Rattle.bicycle_common.specs.declared.Refusal.TheVariants.{NativeRange}
use Rattle.bicycle_common.specs.Letters.{flag, x_of, z_of}
use Rattle.bicycle_common.specs.Automorphisms.{inverse}
use Rattle.bicycle_common.specs.Ranges.{sum, listed}
use Rattle.bicycle_common.proofs.Ranges.{listed_at}
use Rattle.bicycle_common.proofs.Letters.{x_of_lt, z_of_lt}
use Rattle.pauli_string.specs.Answers.{string}
use Rattle.pauli_string.proofs.Range.{four_pow}
use Rattle.native_measurement.specs.declared.NativeMeasurement.{NativeMeasurement}
use Rattle.native_measurement.specs.Answers.{native_at}
use Rattle.native_measurement.specs.Natives.{natives, native_of}
use Rattle.native_measurement.proofs.Natives.{native_some}
use Rattle.measurement.specs.Matrices.{Matrix, of_bytes, one, mul, pow, is_binary, is_bytes, Binary, Same}
use Rattle.measurement.specs.Measures.{action, packed, first_column, first_row, placed, placed_by, measured, native_string}
use Rattle.measurement.specs.Answers.{measures_if}
use Rattle.measurement.proofs.Matrices.{one_binary, action_binary, is_binary_law, action_same, packed_same, packed_lt}
use Rattle.measurement.proofs.Algebra.{one_left}

-- ---- digits that a loop has listed

pub listed_le : (s : ℕ) (f : ℕ → ℕ) (l : List ℕ) → l ≡ listed f s → ((i : ℕ) → i < s → f i ≤ 1) → (i : ℕ) → i < s → get_or l i 0 ≤ 1
listed_le s f l e h i hi = rw (e, listed_at f 0 s i hi) (h i hi)

pub packed_listed : (s : ℕ) (f : ℕ → ℕ) (l : List ℕ) → l ≡ listed f s → packed s (λ (i : ℕ). get_or l i 0) ≡ packed s f
packed_listed s f l e = packed_same s (λ i hi. ap (λ (m : List ℕ). get_or m i 0) e ∙ listed_at f 0 s i hi)

pub packed_listed_lt : (s : ℕ) (f : ℕ → ℕ) (l : List ℕ) (v : ℕ) → l ≡ listed f s → ((i : ℕ) → i < s → f i ≤ 1) → v ≡ packed s (λ (i : ℕ). get_or l i 0)
    → v < 2 ^ s
packed_listed_lt s f l v e h ev = rw (ev, packed_listed s f l e) (packed_lt s f h)

-- a native's string, by the column and the row that were listed
pub measured_by_law : (s : ℕ) (mx my : Matrix) (m : NativeMeasurement) (i : AutomorphismData) → i ≡ inverse m.automorphism → (l k : List ℕ)
    → l ≡ listed (λ (t : ℕ). action s mx my i t 0) s → k ≡ listed (λ (t : ℕ). action s mx my m.automorphism 0 t) s → (c r : ℕ)
    → c ≡ packed s (λ (t : ℕ). get_or l t 0) → r ≡ packed s (λ (t : ℕ). get_or k t 0) → placed_by s c r m.logical ≡ measured s mx my m
unfolding measured
measured_by_law s mx my m i ei l k el ek c r ec er =
    ap₂ (λ (u v : ℕ). placed_by s u v m.logical)
    (ec ∙ packed_listed s _ l el ∙ ap (λ (a : AutomorphismData). first_column s (action s mx my a)) ei)
    (er ∙ packed_listed s _ k ek)

-- ---- the numbers below the side alone matter

pub measured_same : (s : ℕ) {a b c d : Matrix} → 0 < s → Same s a b → Same s c d → (m : NativeMeasurement) → measured s a c m ≡ measured s b d m
unfolding measured
measured_same s z p q m =
    ap₂ (λ (u v : ℕ). placed_by s u v m.logical)
    (packed_same s (λ i hi. action_same s p q (inverse m.automorphism) i 0 hi z))
    (packed_same s (λ j hj. action_same s p q m.automorphism 0 j z hj))

pub native_same : (s : ℕ) {a b c d : Matrix} → 0 < s → Same s a b → Same s c d → (n : ℕ) → native_string s a c n ≡ native_string s b d n
unfolding native_string
native_same s z p q n = measured_same s z p q (native_of n)

-- ---- every string is below 4 ^ (2 * s)

pub half_lt : (c P x y : ℕ) → c < P → x ≤ 1 → y ≤ 1 → c * (x + P * y) < P * P
half_lt c P x y h hx hy =
    let a : c * x ≤ c * 1 = mul-le-mul {n₁ = c} {n₂ = c} (omega arith) hx in
    let b : c * (P * y) ≤ (P - 1) * (P * 1) = mul-le-mul {n₂ = P - 1} (omega arith) (mul-le-mul {n₁ = P} {n₂ = P} (omega arith) hy) in
    let e : c * (x + P * y) ≡ c * x + c * (P * y) = mul-add c x (P * y) in
    let f : P * P ≡ (P - 1) * P + 1 * P = ap (λ (m : ℕ). m * P) (let g : P ≡ P - 1 + 1 = omega arith in g) ∙ add-mul (P - 1) 1 P in
    let g : (P - 1) * (P * 1) ≡ (P - 1) * P = ap (λ (m : ℕ). (P - 1) * m) (mul-one P) in
    omega arith

two_halves : (u v Q : ℕ) → u < Q → v < Q → u + Q * v < Q * Q
two_halves u v Q hu hv =
    let b : Q * v ≤ Q * (Q - 1) = mul-le-mul {n₁ = Q} {n₂ = Q} (omega arith) (omega arith) in
    let f : Q * Q ≡ Q * (Q - 1) + Q * 1 = ap (λ (m : ℕ). Q * m) (let g : Q ≡ Q - 1 + 1 = omega arith in g) ∙ mul-add Q (Q - 1) 1 in
    omega arith

pub placed_lt : (s c r x1 z1 x7 z7 : ℕ) → c < 2 ^ s → r < 2 ^ s → x1 ≤ 1 → z1 ≤ 1 → x7 ≤ 1 → z7 ≤ 1
    → placed s c r x1 z1 x7 z7 < 4 ^ (2 * s)
unfolding placed
placed_lt s c r x1 z1 x7 z7 hc hr hx1 hz1 hx7 hz7 =
    let two : 2 * s ≡ s + s = omega arith in
    let square : 2 ^ (2 * s) ≡ 2 ^ s * 2 ^ s = ap (λ (e : ℕ). 2 ^ e) two ∙ pow-add 2 s s in
    let whole : 4 ^ (2 * s) ≡ 2 ^ (2 * s) * 2 ^ (2 * s) = four_pow (2 * s) ∙ pow-add 2 (2 * s) (2 * s) in
    rw whole
    (two_halves _ _ (2 ^ (2 * s))
    (rw square (half_lt c (2 ^ s) x1 x7 hc hx1 hx7))
    (rw square (half_lt r (2 ^ s) z1 z7 hr hz1 hz7)))

pub column_lt : (s : ℕ) → 0 < s → (a b : Matrix) (m : NativeMeasurement) → first_column s (action s a b (inverse m.automorphism)) < 2 ^ s
column_lt s z a b m = packed_lt s _ (λ i hi. action_binary s a b (inverse m.automorphism) i 0 hi z)

pub row_lt : (s : ℕ) → 0 < s → (a b : Matrix) (m : NativeMeasurement) → first_row s (action s a b m.automorphism) < 2 ^ s
row_lt s z a b m = packed_lt s _ (λ j hj. action_binary s a b m.automorphism 0 j z hj)

digit_le : {d : ℕ} → d < 2 → d ≤ 1
digit_le h = omega arith

pub x_le : {d : ℕ} (p : Pauli) → d ≡ x_of p → d ≤ 1
x_le p e = rw e (digit_le (x_of_lt p))

pub z_le : {d : ℕ} (p : Pauli) → d ≡ z_of p → d ≤ 1
z_le p e = rw e (digit_le (z_of_lt p))

pub measured_lt : (s : ℕ) → 0 < s → (a b : Matrix) (m : NativeMeasurement) → measured s a b m < 4 ^ (2 * s)
unfolding measured
measured_lt s z a b m =
    placed_lt s _ _ _ _ _ _ (column_lt s z a b m) (row_lt s z a b m)
    (x_le m.logical.p1 refl) (z_le m.logical.p1 refl) (x_le m.logical.p7 refl) (z_le m.logical.p7 refl)

pub native_lt : (s : ℕ) → 0 < s → (a b : Matrix) (n : ℕ) → native_string s a b n < 4 ^ (2 * s)
unfolding native_string
native_lt s z a b n = measured_lt s z a b (native_of n)

-- ---- string 1: native 3 measures X on letter 1, and A(0,0) is the identity

packed_one : (s : ℕ) → packed (suc s) (λ (i : ℕ). one i 0) ≡ 1
unfolding packed sum one
packed_one zero = refl
packed_one (suc s) =
    let o : one (suc s) 0 ≡ 0 = ap flag (ne_eqb (suc s) 0 (λ e. omega arith)) in
    let z : one (suc s) 0 * 2 ^ suc s ≡ 0 = rw o (omega arith) in
    omega (arith, packed_one s)

column_one : (s : ℕ) → packed (suc s) (λ (i : ℕ). mul (suc s) one one i 0) ≡ 1
column_one s = packed_same (suc s) (λ i hi. one_left (suc s) one (one_binary (suc s)) i 0 hi (omega arith)) ∙ packed_one s

x_alone : (P Q c r : ℕ) → c * (1 + P * 0) + Q * (r * (0 + P * 0)) ≡ c
x_alone P Q c r =
    let a : P * 0 ≡ 0 = omega arith in
    let b : r * 0 ≡ 0 = omega arith in
    let d : Q * 0 ≡ 0 = omega arith in
    rw (a, b, d) (omega arith)

native_one_suc : (s : ℕ) (a b : Matrix) → native_string (suc s) a b 3 ≡ 1
unfolding native_string measured native_of action pow placed
native_one_suc s a b = x_alone (2 ^ suc s) (2 ^ (2 * suc s)) _ (packed (suc s) (λ (j : ℕ). mul (suc s) one one 0 j)) ∙ column_one s

pub native_one : (s : ℕ) → 0 < s → (a b : Matrix) → native_string s a b 3 ≡ 1
native_one zero z a b = absurd (omega arith)
native_one (suc s) z a b = native_one_suc s a b

-- ---- what the calls answer

module _ (s : ℕ) (mx my : Matrix) (n : ℕ) where
  pub both_good : (a b : Bool) → a ≡ true → b ≡ true → measures_if true s mx my n ≡ measures_if (a && b) s mx my n
  both_good a b ea eb = rw (ea, eb)

  string_is : (m : NativeMeasurement) → native_of n ≡ m → (p : ℕ) → p ≡ measured s mx my m → string p ≡ string (native_string s mx my n)
  unfolding native_string
  string_is m f p e = ap string (e ∙ ap (measured s mx my) (sym f))

  pub the_string : (m : NativeMeasurement) → native_at n ≡ Ok m → (p : ℕ) → p ≡ measured s mx my m → string p ≡ measures_if true s mx my n
  the_string m h p ep = let q = native_some n m h in rw q.0 (string_is m q.1 p ep)

-- ---- rows and bytes

-- what is answered of a good pair depends on the numbers of the matrices alone, however they are held
pub answer_same : (s : ℕ) {a b c d : Matrix} → 0 < s → Same s a b → Same s c d → (n : ℕ) → measures_if true s a c n ≡ measures_if true s b d n
answer_same s z p q n = ap (λ (t : ℕ). cond (ltb n natives) (string t) (Err NativeRange)) (native_same s z p q n)

pub bytes_good : (s : ℕ) (m : List ℕ) → is_bytes s m ≡ true → (length m ≡ s * s) × Binary s (of_bytes s m)
bytes_good s m e =
    let t = (and-eq-true_iff (eqb (length m) (s * s)) (is_binary s (of_bytes s m))).0 e in
    (eqb-true (length m) (s * s) t.0, is_binary_law s (of_bytes s m) t.1)
