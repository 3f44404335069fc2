-- The product modulo 2 is associative, `one` is its unit, a power grows on either side, and the transpose
-- of a product has the last factor first. By sums, term by term. Assumes nothing.
use mathlib.Core.Bool.{Bool, true, false}
use mathlib.Core.Path.{◌≡◌, refl, sym, ap, ◌∙◌}
use Prim.Native.Nat.{ℕ, zero, suc, ◌+◌, ◌*◌, ◌/◌, ◌%◌, ◌<◌}
use native.Mathlib.Nat.{mod-add-div, add-mul, mul-add, mul_assoc, mul_comm, eq-or-lt_of_le}
use native.Mathlib.Omega.{arith}
use mathlib.Core.Logic.{⊎_elim}
use lib.Dec.{eqb}
use borrow.Author.Tests.{eq-eqb, ne_eqb, eqb-true, eqb-false}
use Rattle.bicycle_common.specs.Letters.{flag}
use Rattle.bicycle_common.specs.Ranges.{sum}
use Rattle.bicycle_common.proofs.Ranges.{sum_same, sum_zero}
use Rattle.measurement.specs.Matrices.{Matrix, one, mul, pow, Same, Binary}
use Rattle.measurement.proofs.Matrices.{same_sym, same_trans, mul_same}

mod_left : (a b : ℕ) → a % 2 * b % 2 ≡ a * b % 2
mod_left a b =
    let e : a * b ≡ a % 2 * b + 2 * (a / 2 * b) =
    ap (λ (t : ℕ). t * b) (sym (mod-add-div a 2)) ∙ add-mul (a % 2) (2 * (a / 2)) b ∙ ap (λ (t : ℕ). a % 2 * b + t) (mul_assoc 2 (a / 2) b)
    in omega arith

mod_right : (a b : ℕ) → a * (b % 2) % 2 ≡ a * b % 2
mod_right a b = ap (λ (t : ℕ). t % 2) (mul_comm a (b % 2)) ∙ mod_left b a ∙ ap (λ (t : ℕ). t % 2) (mul_comm b a)

sum_mod : (n : ℕ) (f g : ℕ → ℕ) → ((j : ℕ) → f j % 2 ≡ g j % 2) → sum n f % 2 ≡ sum n g % 2
unfolding sum
sum_mod zero f g h = refl
sum_mod (suc n) f g h = omega (arith, sum_mod n f g h, h n)

pub sum_scale : (n c : ℕ) (f : ℕ → ℕ) → sum n (λ (j : ℕ). c * f j) ≡ c * sum n f
unfolding sum
sum_scale zero c f = omega arith
sum_scale (suc n) c f = rw (sum_scale n c f, mul-add)

sum_scaled : (n c : ℕ) (f : ℕ → ℕ) → sum n (λ (j : ℕ). f j * c) ≡ sum n f * c
unfolding sum
sum_scaled zero c f = omega arith
sum_scaled (suc n) c f = rw (sum_scaled n c f, add-mul)

sum_add : (n : ℕ) (f g : ℕ → ℕ) → sum n (λ (j : ℕ). f j + g j) ≡ sum n f + sum n g
unfolding sum
sum_add zero f g = refl
sum_add (suc n) f g = omega (arith, sum_add n f g)

sum_swap : (n m : ℕ) (f : ℕ → ℕ → ℕ) → sum n (λ (i : ℕ). sum m (λ (j : ℕ). f i j)) ≡ sum m (λ (j : ℕ). sum n (λ (i : ℕ). f i j))
unfolding sum
sum_swap zero m f = sym (sum_zero m (λ (j : ℕ). 0) (λ j h. refl))
sum_swap (suc n) m f = rw (sum_swap n m f, sum_add m (λ (j : ℕ). sum n (λ (i : ℕ). f i j)) (λ (j : ℕ). f n j))

pub assoc : (s : ℕ) (a b c : Matrix) → Same s (mul s (mul s a b) c) (mul s a (mul s b c))
unfolding mul
assoc s a b c i k hi hk =
    sum_mod s _ _ (λ j. mod_left (sum s (λ (l : ℕ). a i l * b l j)) (c j k))
    ∙ ap (λ (t : ℕ). t % 2)
    (sum_same s _ _ (λ j hj. sym (sum_scaled s (c j k) (λ (l : ℕ). a i l * b l j)) ∙ sum_same s _ _ (λ l hl. mul_assoc (a i l) (b l j) (c j k)))
    ∙ sum_swap s s (λ (j l : ℕ). a i l * (b l j * c j k))
    ∙ sum_same s _ _ (λ l hl. sum_scale s (a i l) (λ (j : ℕ). b l j * c j k)))
    ∙ sum_mod s _ _ (λ l. sym (mod_right (a i l) (sum s (λ (j : ℕ). b l j * c j k))))

-- a sum of which one term alone is not 0
sum_pick : (n i : ℕ) (f : ℕ → ℕ) → ((j : ℕ) → (j ≡ i → ⊥) → f j ≡ 0) → i < n → sum n f ≡ f i
unfolding sum
sum_pick zero i f h l = omega arith
sum_pick (suc n) i f h l =
    ⊎_elim
    (λ (e : i ≡ n). rw (e, sum_zero n f (λ j hj. h j (omega arith))) (omega arith))
    (λ (q : i < n). rw (sum_pick n i f h q, h n (omega arith)) (omega arith))
    (eq-or-lt_of_le (omega arith))

flag_same : (i : ℕ) → flag (eqb i i) ≡ 1
flag_same i = rw (eq-eqb i i refl)

pub one_left : (s : ℕ) (a : Matrix) → Binary s a → Same s (mul s one a) a
unfolding mul one
one_left s a b i k hi hk =
    let e : sum s (λ (j : ℕ). flag (eqb i j) * a j k) ≡ flag (eqb i i) * a i k =
    sum_pick s i _ (λ j n. rw (ne_eqb i j (λ q. n (sym q))) (omega arith)) hi
    in rw (e, flag_same i) (omega (arith, b i k hi hk))

pub one_right : (s : ℕ) (a : Matrix) → Binary s a → Same s (mul s a one) a
unfolding mul one
one_right s a b i k hi hk =
    let e : sum s (λ (j : ℕ). a i j * flag (eqb j k)) ≡ a i k * flag (eqb k k) =
    sum_pick s k _ (λ j n. rw (ne_eqb j k n) (omega arith)) hk
    in rw (e, flag_same k) (omega (arith, b i k hi hk))

-- a power may grow on either side
pub pow_left : (s : ℕ) (m : Matrix) → Binary s m → (n : ℕ) → Same s (mul s m (pow s m n)) (pow s m (suc n))
unfolding pow
pow_left s m b zero = same_trans s (one_right s m b) (same_sym s (one_left s m b))
pow_left s m b (suc n) =
    same_trans s (same_sym s (assoc s m (pow s m n) m)) (mul_same s (pow_left s m b n) (λ i k hi hk. refl))

-- ---- the transpose

abbrev pub turned : Matrix → Matrix
turned a i k = a k i

one_turned : (i k : ℕ) → one i k ≡ one k i
unfolding one
one_turned i k = go (eqb i k) refl
  where
    go : (b : Bool) → eqb i k ≡ b → flag b ≡ flag (eqb k i)
    go true e = ap flag (sym (eq-eqb k i (sym (eqb-true i k e))))
    go false e = ap flag (sym (ne_eqb k i (λ q. eqb-false i k e (sym q))))

mul_turned : (s : ℕ) (a b : Matrix) (i k : ℕ) → mul s (turned b) (turned a) i k ≡ mul s a b k i
unfolding mul
mul_turned s a b i k = ap (λ (t : ℕ). t % 2) (sum_same s _ _ (λ j hj. mul_comm (b j i) (a k j)))

pow_turned : (s : ℕ) (m : Matrix) → Binary s m → (n : ℕ) → Same s (pow s (turned m) n) (turned (pow s m n))
unfolding pow
pow_turned s m b zero = λ i k hi hk. one_turned i k
pow_turned s m b (suc n) = λ i k hi hk.
    mul_same s (pow_turned s m b n) (λ i k hi hk. refl) i k hi hk ∙ mul_turned s m (pow s m n) i k ∙ pow_left s m b n k i hk hi

-- a product of powers turns into the powers of the transposes, the last factor first
pub product_turned : (s : ℕ) (a b : Matrix) → Binary s a → Binary s b → (x y : ℕ)
    → Same s (mul s (pow s (turned b) y) (pow s (turned a) x)) (turned (mul s (pow s a x) (pow s b y)))
product_turned s a b ha hb x y i k hi hk =
    mul_same s (pow_turned s b hb y) (pow_turned s a ha x) i k hi hk ∙ mul_turned s (pow s a x) (pow s b y) i k
