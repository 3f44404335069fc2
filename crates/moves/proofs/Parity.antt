-- Whether a number has an odd number of ones is told by its two halves, one laid over the other, and at last by three digits. Assumes
-- nothing.
use mathlib.Core.Path.{◌≡◌, sym, ap, ap₂, ◌∙◌}
use Prim.Native.Nat.{ℕ, zero, suc, ◌+◌, ◌/◌, ◌%◌, ◌^◌, ◌<◌}
use native.Mathlib.Nat.{mod-lt, mod-eq_of_lt, add_comm, two-pow-succ}
use native.Mathlib.Omega.{arith}
use lib.Bits.{differ, bit_xor, xor_step, xor_mod}
use lib.Count.{ones, ones_step, ones_cat}
use lib.Dec.{eqb, eqb→eq}
use lib.Pow.{pow_pos, mod-pow-add, field, mod-mod-pow}
use Rattle.bicycle_common.specs.Ranges.{all_below}
use Rattle.bicycle_common.proofs.Ranges.{all_below_law}
use Rattle.bicycle_common.proofs.Tests.{bits, at_bit}

-- ---- the ones of two numbers that are laid over each other

differ_sum : (x y : ℕ) → x < 2 → y < 2 → differ x y ≡ (x + y) % 2
differ_sum x y hx hy =
    eqb→eq (differ x y) ((x + y) % 2)
    (at_bit (λ (y : ℕ). eqb (differ x y) ((x + y) % 2)) (at_bit (λ (x : ℕ). bits (λ (y : ℕ). eqb (differ x y) ((x + y) % 2))) tt x hx) y hy)

carry : (d u v w x y : ℕ) → d ≡ (x + y) % 2 → u % 2 ≡ (v + w) % 2 → (d + u) % 2 ≡ (x + v + (y + w)) % 2
carry d u v w x y e f = omega arith

ones_xor : (k a b : ℕ) → a < 2 ^ k → b < 2 ^ k → ones (bit_xor a b) % 2 ≡ (ones a + ones b) % 2
unfolding ones
ones_xor zero a b ha hb =
    let za : a ≡ 0 = omega arith in
    let zb : b ≡ 0 = omega arith in
    ap₂ (λ (a b : ℕ). ones (bit_xor a b) % 2) za zb ∙ sym (ap₂ (λ (a b : ℕ). (ones a + ones b) % 2) za zb)
ones_xor (suc k) a b ha hb =
    let la : a / 2 < 2 ^ k = omega (arith, two-pow-succ k) in
    let lb : b / 2 < 2 ^ k = omega (arith, two-pow-succ k) in
    let d : differ (a % 2) (b % 2) ≡ (a % 2 + b % 2) % 2 = differ_sum (a % 2) (b % 2) (omega arith) (omega arith) in
    let odd : bit_xor a b % 2 ≡ (a % 2 + b % 2) % 2 = omega (arith, xor_step a b, d) in
    let half : bit_xor a b / 2 ≡ bit_xor (a / 2) (b / 2) = omega (arith, xor_step a b, d) in
    ap (λ (m : ℕ). m % 2) (ones_step (bit_xor a b) ∙ ap (λ (m : ℕ). bit_xor a b % 2 + ones m) half)
    ∙ carry (bit_xor a b % 2) (ones (bit_xor (a / 2) (b / 2))) (ones (a / 2)) (ones (b / 2)) (a % 2) (b % 2) odd (ones_xor k (a / 2) (b / 2) la lb)
    ∙ sym (ap₂ (λ (m n : ℕ). (m + n) % 2) (ones_step a) (ones_step b))

-- the ones of the lower 2k digits are as even as those of the lower k after one half was laid over the other
pub fold : (k n : ℕ) → ones (n % 2 ^ (k + k)) % 2 ≡ ones (bit_xor n (n / 2 ^ k) % 2 ^ k) % 2
fold k n =
    let h = n / 2 ^ k % 2 ^ k in
    let l = n % 2 ^ k in
    ap (λ (m : ℕ). ones m % 2) (mod-pow-add n k k)
    ∙ ap (λ (m : ℕ). m % 2) (ones_cat k h l (mod-lt n (pow_pos k)) ∙ add_comm (ones h) (ones l))
    ∙ sym (ones_xor k l h (mod-lt n (pow_pos k)) (mod-lt (n / 2 ^ k) (pow_pos k)))
    ∙ ap (λ (m : ℕ). ones m % 2) (sym (xor_mod n (n / 2 ^ k) k))

-- ---- the last three digits

xor_odd : (a b : ℕ) → bit_xor a b % 2 ≡ (a % 2 + b % 2) % 2
xor_odd a b = omega (arith, xor_step a b, differ_sum (a % 2) (b % 2) (omega arith) (omega arith))

three : (n : ℕ) → n < 8 → (n % 2 + n / 2 % 2 + n / 4 % 2) % 2 ≡ ones n % 2
unfolding ones all_below
three n h = eqb→eq ((n % 2 + n / 2 % 2 + n / 4 % 2) % 2) (ones n % 2) (all_below_law 8 (λ (n : ℕ). eqb ((n % 2 + n / 2 % 2 + n / 4 % 2) % 2) (ones n % 2)) tt n h)

sum_odd : (a b c : ℕ) → ((a + b) % 2 + c) % 2 ≡ (a + b + c) % 2
sum_odd a b c = omega arith

last : (d : ℕ) → bit_xor (bit_xor d (d / 2)) (d / 4) % 2 ≡ ones (d % 8) % 2
last d =
    let a : d % 8 % 2 ≡ d % 2 = omega arith in
    let b : d % 8 / 2 % 2 ≡ d / 2 % 2 = ap (λ (n : ℕ). n % 2) (field d 2 1) ∙ mod-mod-pow (d / 2) 1 1 in
    let c : d % 8 / 4 % 2 ≡ d / 4 % 2 = ap (λ (n : ℕ). n % 2) (field d 1 2) ∙ mod-mod-pow (d / 4) 0 1 in
    let e : (d % 8 % 2 + d % 8 / 2 % 2 + d % 8 / 4 % 2) % 2 ≡ (d % 2 + d / 2 % 2 + d / 4 % 2) % 2 = λ i. (a i + b i + c i) % 2 in
    xor_odd (bit_xor d (d / 2)) (d / 4)
    ∙ ap (λ (x : ℕ). (x + d / 4 % 2) % 2) (xor_odd d (d / 2))
    ∙ sum_odd (d % 2) (d / 2 % 2) (d / 4 % 2)
    ∙ sym e
    ∙ three (d % 8) (omega arith)

-- what the program computes of a number of 24 digits
pub folded : (n d : ℕ) → n < 4 ^ 12
    → d ≡ bit_xor (bit_xor (bit_xor n (n / 2 ^ 12)) (bit_xor n (n / 2 ^ 12) / 2 ^ 6)) (bit_xor (bit_xor n (n / 2 ^ 12)) (bit_xor n (n / 2 ^ 12) / 2 ^ 6) / 2 ^ 3)
    → bit_xor (bit_xor d (d / 2)) (d / 4) % 2 ≡ ones n % 2
folded n d h e =
    let b = bit_xor n (n / 2 ^ 12) in
    let c = bit_xor b (b / 2 ^ 6) in
    last d
    ∙ ap (λ (d : ℕ). ones (d % 2 ^ 3) % 2) e
    ∙ sym (fold 3 c)
    ∙ sym (fold 6 b)
    ∙ sym (fold 12 n)
    ∙ ap (λ (m : ℕ). ones m % 2) (mod-eq_of_lt h)
