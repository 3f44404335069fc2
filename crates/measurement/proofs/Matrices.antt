-- Matrices modulo 2 over the side: products and powers hold zeros and ones, and read the numbers below the side alone. Assumes nothing.
use mathlib.Core.Path.{◌≡◌, refl, sym, ap, subst, ◌∙◌}
use mathlib.Core.Bool.{Bool, true, false}
use mathlib.Core.List.{List}
use Prim.Native.Nat.{ℕ, zero, suc, ◌+◌, ◌*◌, ◌/◌, ◌%◌, ◌^◌, ◌<◌, ◌≤◌}
use native.Mathlib.Nat.{mul-le-mul, two-pow-succ}
use native.Mathlib.Numerals.{add-one}
use native.Mathlib.Omega.{arith}
use mir.Val.{bool_byte}
use lib.Dec.{T, eqb, leb, eqb→eq, leb→le}
use lib.ListN.{length}
use borrow.Author.Tests.{le-leb, eq-eqb}
use Rattle.bicycle_common.specs.declared.AutomorphismData.{AutomorphismData}
use Rattle.bicycle_common.specs.Letters.{flag}
use Rattle.bicycle_common.specs.Automorphisms.{component}
use Rattle.bicycle_common.specs.Ranges.{sum, all_below}
use Rattle.bicycle_common.proofs.Ranges.{sum_same, all_below_law, all_true, all_same, length_from, listed_at}
use Rattle.bicycle_common.proofs.Letters.{flag_le}
use Rattle.measurement.specs.Matrices.{side, Matrix, of_rows, by_rows, of_bytes, one, mul, pow, is_binary, is_bytes, Binary, Same}
use Rattle.measurement.specs.Measures.{action, packed}

-- ---- the two relations

pub same_sym : (s : ℕ) {a b : Matrix} → Same s a b → Same s b a
same_sym s p i k hi hk = sym (p i k hi hk)

pub same_trans : (s : ℕ) {a b c : Matrix} → Same s a b → Same s b c → Same s a c
same_trans s p q i k hi hk = p i k hi hk ∙ q i k hi hk

pub same_binary : (s : ℕ) {a b : Matrix} → Same s a b → Binary s b → Binary s a
same_binary s p h i k hi hk = rw (p i k hi hk) (h i k hi hk)

-- ---- zeros and ones

pub product_le : (a b : ℕ) → a ≤ 1 → b ≤ 1 → a * b ≤ 1
product_le a b ha hb = mul-le-mul ha hb

-- a yes or no, as a number
pub byte_flag : (b : Bool) → bool_byte b ≡ flag b
byte_flag true = refl
byte_flag false = refl

pub mul_binary : (s : ℕ) (a b : Matrix) → Binary s (mul s a b)
unfolding mul
mul_binary s a b i k hi hk = omega arith

pub one_binary : (s : ℕ) → Binary s one
unfolding one
one_binary s i k hi hk = flag_le (eqb i k)

pub pow_binary : (s : ℕ) (m : Matrix) (n : ℕ) → Binary s (pow s m n)
unfolding pow
pow_binary s m zero = one_binary s
pow_binary s m (suc n) = mul_binary s (pow s m n) m

pub action_binary : (s : ℕ) (a b : Matrix) (t : AutomorphismData) → Binary s (action s a b t)
unfolding action
action_binary s a b t = mul_binary s (pow s a (component t.x)) (pow s b (component t.y))

-- the test says what it means
pub is_binary_law : (s : ℕ) (m : Matrix) → is_binary s m ≡ true → Binary s m
unfolding is_binary
is_binary_law s m t i k hi hk =
    leb→le (m i k) 1
    (all_below_law s (λ (k : ℕ). leb (m i k) 1) (all_below_law s (λ (i : ℕ). all_below s (λ (k : ℕ). leb (m i k) 1)) (subst T (sym t) tt) i hi) k hk)

pub binary_true : (s : ℕ) (m : Matrix) → Binary s m → is_binary s m ≡ true
unfolding is_binary
binary_true s m h = all_true s _ (λ i hi. all_true s _ (λ k hk. le-leb (m i k) 1 (h i k hi hk)))

pub binary_same : (s : ℕ) {a b : Matrix} → Same s a b → is_binary s a ≡ is_binary s b
unfolding is_binary
binary_same s p = all_same s _ _ (λ i hi. all_same s _ _ (λ k hk. ap (λ (n : ℕ). leb n 1) (p i k hi hk)))

-- ---- they read the numbers below the side alone

pub mul_same : (s : ℕ) {a b c d : Matrix} → Same s a b → Same s c d → Same s (mul s a c) (mul s b d)
unfolding mul
mul_same s p q i k hi hk = ap (λ (t : ℕ). t % 2) (sum_same s _ _ (λ j hj. cc (p i j hi hj, q j k hj hk)))

pub pow_same : (s : ℕ) {a b : Matrix} → Same s a b → (n : ℕ) → Same s (pow s a n) (pow s b n)
unfolding pow
pow_same s p zero = λ i k hi hk. refl
pow_same s p (suc n) = mul_same s (pow_same s p n) p

pub action_same : (s : ℕ) {a b c d : Matrix} → Same s a b → Same s c d → (t : AutomorphismData) → Same s (action s a c t) (action s b d t)
unfolding action
action_same s p q t = mul_same s (pow_same s p (component t.x)) (pow_same s q (component t.y))

-- one turn of a loop that forms a power
pub pow_next : (s : ℕ) (m : Matrix) (n : ℕ) {a b : Matrix} → Same s a (pow s m n) → Same s b (mul s a m) → Same s b (pow s m (n + 1))
unfolding pow
pow_next s m n p q = rw add-one (same_trans s q (mul_same s p (λ i k hi hk. refl)))

-- ---- equality by a computed test

unfoldable pub same_test : ℕ → Matrix → Matrix → Bool
same_test s a b = all_below s (λ (i : ℕ). all_below s (λ (k : ℕ). eqb (a i k) (b i k)))

pub same_by_test : (s : ℕ) (a b : Matrix) → T (same_test s a b) → Same s a b
unfolding same_test
same_by_test s a b t i k hi hk =
    eqb→eq (a i k) (b i k)
    (all_below_law s (λ (k : ℕ). eqb (a i k) (b i k)) (all_below_law s (λ (i : ℕ). all_below s (λ (k : ℕ). eqb (a i k) (b i k))) t i hi) k hk)

-- ---- a matrix by rows

-- at the side of the code; over any side it would want a division by it
pub by_rows_law : (m : List (List ℕ)) → Same side (of_bytes side (by_rows side m)) (of_rows m)
by_rows_law m i k hi hk =
    let d : (6 * i + k) / 6 ≡ i = omega arith in
    let r : (6 * i + k) % 6 ≡ k = omega arith in
    listed_at (λ (q : ℕ). of_rows m (q / 6) (q % 6)) 0 36 (6 * i + k) (omega arith) ∙ rw (d, r)

-- the rows of a matrix, as bytes, are good exactly when it is
pub by_rows_binary : (m : List (List ℕ)) → is_bytes side (by_rows side m) ≡ is_binary side (of_rows m)
by_rows_binary m = simp (eq-eqb (length (by_rows 6 m)) 36 (length_from (λ (q : ℕ). of_rows m (q / 6) (q % 6)) 0 36)) (binary_same 6 (by_rows_law m))

-- ---- packed digits

pub packed_same : (s : ℕ) {f g : ℕ → ℕ} → ((i : ℕ) → i < s → f i ≡ g i) → packed s f ≡ packed s g
unfolding packed
packed_same s p = sum_same s _ _ (λ i hi. ap (λ (t : ℕ). t * 2 ^ i) (p i hi))

pub packed_lt : (s : ℕ) (f : ℕ → ℕ) → ((i : ℕ) → i < s → f i ≤ 1) → packed s f < 2 ^ s
unfolding packed sum
packed_lt zero f h = omega arith
packed_lt (suc s) f h =
    let e : 2 ^ suc s ≡ 2 ^ s + 2 ^ s = two-pow-succ s in
    let l : f s * 2 ^ s ≤ 1 * 2 ^ s = mul-le-mul (h s (omega arith)) (omega arith) in
    omega (arith, packed_lt s f (λ j l. h j (omega arith)))
