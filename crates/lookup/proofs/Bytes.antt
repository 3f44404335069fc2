-- The rotations are written from the last to the first, two bytes each: stores in front of what is written leave it as it is. Assumes
-- nothing.
use mathlib.Core.Path.{◌≡◌, refl, sym, ap, ◌∙◌}
use mathlib.Core.List.{List, [], ◌∷◌}
use Prim.Native.Nat.{ℕ, suc, ◌+◌, ◌-◌, ◌*◌, ◌/◌, ◌%◌, ◌<◌}
use native.Mathlib.Omega.{arith}
use lib.ListN.{set}
use lib.Seq.{sets, set_comm}
use Rattle.bicycle_common.specs.Ranges.{list_from}
use Rattle.lookup.specs.Answers.{two_bytes}

-- a store in front of a run of stores
set_sets : (l : List ℕ) (i j a : ℕ) (vs : List ℕ) → j < i → set (sets l i vs) j a ≡ sets (set l j a) i vs
set_sets l i j a [] h = refl
set_sets l i j a (v ∷ vs) h =
    set_sets (set l i v) (suc i) j a vs (omega arith)
    ∙ ap (λ (m : List ℕ). sets m (suc i) vs) (set_comm l i j v a (λ z. omega arith))

two_stores : (l : List ℕ) (j a b : ℕ) (vs : List ℕ) → set (set (sets l (suc (suc j)) vs) j a) (suc j) b ≡ sets l j (a ∷ b ∷ vs)
two_stores l j a b vs =
    ap (λ (m : List ℕ). set m (suc j) b) (set_sets l (suc (suc j)) j a vs (omega arith))
    ∙ set_sets (set l j a) (suc (suc j)) (suc j) b vs (omega arith)

-- number n in front of the numbers from place i + 1 on
written_next : (l : List ℕ) (i n : ℕ) (ns : List ℕ)
    → set (set (sets l (2 * (i + 1)) (two_bytes ns)) (2 * i) (n % 256)) (2 * i + 1) (n / 256) ≡ sets l (2 * i) (two_bytes (n ∷ ns))
unfolding two_bytes
written_next l i n ns =
    let a : 2 * (i + 1) ≡ suc (suc (2 * i)) = omega arith in
    let b : 2 * i + 1 ≡ suc (2 * i) = omega arith in
    rw (a, b) (two_stores l (2 * i) (n % 256) (n / 256) (two_bytes ns))

-- what is written when the places from i on are
abbrev pub written_from : (ℕ → ℕ) → ℕ → ℕ → List ℕ → List ℕ
written_from g d i l = sets l (2 * i) (two_bytes (list_from g i (d - i)))

pub written_none : (g : ℕ → ℕ) (d : ℕ) (l : List ℕ) → l ≡ written_from g d d l
unfolding list_from two_bytes
written_none g d l = let z : d - d ≡ 0 = omega arith in rw z

from_next : (g : ℕ → ℕ) (d i : ℕ) → i < d → list_from g i (d - i) ≡ g i ∷ list_from g (i + 1) (d - (i + 1))
unfolding list_from
from_next g d i h =
    let a : d - i ≡ suc (d - (i + 1)) = omega arith in
    let b : i + 1 ≡ suc i = omega arith in
    rw (a, b)

pub written_more : (g : ℕ → ℕ) (d i n : ℕ) (l : List ℕ) → i < d → n ≡ g i
    → set (set (written_from g d (i + 1) l) (2 * i) (n % 256)) (2 * i + 1) (n / 256) ≡ written_from g d i l
written_more g d i n l h e =
    written_next l i n (list_from g (i + 1) (d - (i + 1)))
    ∙ ap (λ (m : ℕ). sets l (2 * i) (two_bytes (m ∷ list_from g (i + 1) (d - (i + 1))))) e
    ∙ ap (λ (ns : List ℕ). sets l (2 * i) (two_bytes ns)) (sym (from_next g d i h))
