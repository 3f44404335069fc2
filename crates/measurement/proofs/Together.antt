-- Bytes of the right length are a matrix exactly when their digits together make a number of at most 1. Assumes nothing.
use mathlib.Core.Path.{◌≡◌, refl, sym, ◌∙◌}
use mathlib.Core.Bool.{Bool, true, false}
use mathlib.Core.List.{List, [], ◌∷◌}
use mathlib.Core.Logic.{⊎_elim}
use Prim.Native.Nat.{ℕ, zero, suc, ◌+◌, ◌*◌, ◌/◌, ◌%◌, ◌<◌, ◌≤◌}
use native.Mathlib.Omega.{arith}
use lib.Dec.{leb}
use lib.ListN.{get_or, length}
use borrow.Author.Tests.{eq-eqb, le-leb, lt-leb}
use Rattle.std.specs.Int.Bits.{bit_or}
use Rattle.std.specs.List.{fold}
use Rattle.std.proofs.lemmas.Nat.{le_or_l, le_or_r}
use Rattle.bicycle_common.proofs.Ranges.{lt_or_ge}
use Rattle.measurement.specs.Matrices.{side, of_bytes, is_bytes}
use Rattle.measurement.proofs.Matrices.{binary_true}
use Rattle.measurement.proofs.Strings.{bytes_good}

-- ---- numbers together are at most 1 exactly when each is

or_le : (a b : ℕ) → a ≤ 1 → b ≤ 1 → bit_or a b ≤ 1
or_le zero zero h k = omega arith
or_le zero (suc zero) h k = omega arith
or_le (suc zero) zero h k = omega arith
or_le (suc zero) (suc zero) h k = omega arith
or_le zero (suc (suc b)) h k = absurd (omega arith)
or_le (suc zero) (suc (suc b)) h k = absurd (omega arith)
or_le (suc (suc a)) b h k = absurd (omega arith)

small : (m : List ℕ) (a : ℕ) → a ≤ 1 → ((i : ℕ) → i < length m → get_or m i 0 ≤ 1) → fold bit_or a m ≤ 1
small [] a h k = h
small (b ∷ m) a h k = small m (bit_or a b) (or_le a b h (k 0 (omega arith))) (λ i l. k (suc i) (omega arith))

start : (m : List ℕ) (a : ℕ) → a ≤ fold bit_or a m
start [] a = omega arith
start (b ∷ m) a = omega (arith, le_or_l a b, start m (bit_or a b))

each : (m : List ℕ) (a i : ℕ) → i < length m → get_or m i 0 ≤ fold bit_or a m
each [] a i l = absurd (omega arith)
each (b ∷ m) a zero l = omega (arith, le_or_r a b, start m (bit_or a b))
each (b ∷ m) a (suc i) l = each m (bit_or a b) i (omega arith)

-- ---- 36 bytes

good : (m : List ℕ) → is_bytes side m ≡ true → (t : ℕ) → t < 36 → get_or m t 0 ≤ 1
good m z t h =
    let e : 6 * (t / 6) + t % 6 ≡ t = omega arith in
    rw e at ((bytes_good 6 m z).1 (t / 6) (t % 6) (omega arith) (omega arith))

no_more : (b : Bool) → (b ≡ true → ⊥) → b ≡ false
no_more true h = absurd (h refl)
no_more false h = refl

pub bytes_joined : (m : List ℕ) → length m ≡ 36 → leb (fold bit_or 0 m) 1 ≡ is_bytes side m
bytes_joined m e =
    ⊎_elim
    (λ (l : 1 < fold bit_or 0 m).
    lt-leb _ 1 l ∙ sym (no_more _ (λ z. let s : fold bit_or 0 m ≤ 1 = small m 0 (omega arith) (λ i h. good m z i (omega arith)) in absurd (omega arith))))
    (λ (l : fold bit_or 0 m ≤ 1).
    le-leb _ 1 l ∙ sym (rw (eq-eqb (length m) 36 e) (binary_true 6 (of_bytes 6 m) (λ i k hi hk. omega (arith, each m 0 (6 * i + k) (omega arith))))))
    (lt_or_ge 1 (fold bit_or 0 m))
