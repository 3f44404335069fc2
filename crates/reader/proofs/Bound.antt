-- The text of a plan has at most 3,417 bytes, which are 40 + 40 + 9 + 256 * 13, and the first 3,418 bytes of any text decide what is read: a
-- line that is too long is bad, and so is one line more. Assumes nothing.
use Rattle.std.specs.Prelude.{Result, Ok, Err, min}
use Rattle.bicycle_common.specs.declared.Refusal.{Refusal}
use mathlib.Core.Path.{◌≡◌, refl, ap, sym, ◌∙◌}
use mathlib.Core.Bool.{Bool, true, false, cond, and-false}
use mathlib.Core.List.{List, [], ◌∷◌}
use mathlib.Core.Logic.{⊎_elim}
use Prim.Native.Nat.{ℕ, zero, suc, ◌+◌, ◌-◌, ◌*◌, ◌≤◌, ◌<◌}
use native.Mathlib.Omega.{arith}
use lib.Dec.{eqb, leb}
use lib.ListN.{length, take, drop, length-take, length-drop}
use lib.Seq.{take-nil, take-take, take_all, length-take-le}
use borrow.Author.Tests.{lt-leb, ne_eqb}
use Rattle.bicycle_common.specs.declared.Refusal.TheVariants.{PlanInput}
use Rattle.bicycle_common.specs.Bytes.{bytes_of}
use Rattle.bicycle_common.proofs.Ranges.{lt_or_ge}
use Rattle.text.specs.Decimals.{is_number}
use Rattle.native_measurement.specs.declared.NativeNumber.{NativeNumber}
use Rattle.measurement.specs.declared.CodeMeasurement.{CodeMeasurement}
use Rattle.reader.specs.Lines.{newline, lines, line_length, is_line, value_in}
use Rattle.text.specs.Reads.{on}
use Rattle.reader.specs.Plans.{Plan, strings_of, most_rotations, matrix_line, native_line, supported, rotation_line, rotation_lines, plan_from, native_lines, read_plan}
use Rattle.reader.proofs.Lines.{lines_cons, lines_first, lines_rest, line_in}
use Rattle.reader.proofs.Good.{both_good}
use Rattle.reader.proofs.Heads.{first, rest, read_head}

-- ---- a line that is too long is bad

-- the value is what the name and the end leave
value_length : (name l : List ℕ) → length (value_in name l) ≡ length l - 1 - length name
value_length name l = rw (length-take, length-drop) (omega arith)

-- its value has 36 digits
matrix_long : (name l : List ℕ) → length name + 37 < length l → matrix_line name l ≡ Err PlanInput
unfolding matrix_line
matrix_long name l h =
    rw (ne_eqb (length (value_in name l)) 36 (λ e. omega (arith, value_length name l)), and-false (is_line name l))

-- a number has at most three
number_long : (s : List ℕ) → 3 < length s → is_number s ≡ false
unfolding is_number
number_long s h = rw (lt-leb (length s) 3 h, and-false (leb 1 (length s)))

native_long : (name l : List ℕ) → length name + 4 < length l → native_line name l ≡ Err PlanInput
unfolding native_line
native_long name l h = rw (number_long (value_in name l) (omega (arith, value_length name l)), and-false (is_line name l))

rotation_long : (f : ℕ → ℕ) (l : List ℕ) → 13 < length l → rotation_line f l ≡ Err PlanInput
unfolding rotation_line
rotation_long f l h = ap (λ (x : Result NativeNumber Refusal). on x (supported f)) (native_long (bytes_of "rotation=") l (omega arith))

-- ---- the first line of the front of a text

-- the front holds the first line
line_front : (n : ℕ) (s : List ℕ) → line_length s ≤ n → line_length (take n s) ≡ line_length s
unfolding line_length
line_front zero [] h = refl
line_front (suc n) [] h = refl
line_front zero (b ∷ s) h = none (eqb b newline) (line_length s) h
  where
    none : (t : Bool) (k : ℕ) → cond t 1 (suc k) ≤ 0 → 0 ≡ cond t 1 (suc k)
    none true k h = omega arith
    none false k h = omega arith
line_front (suc n) (b ∷ s) h = by (eqb b newline) (line_length (take n s)) (line_length s) n (line_front n s) h
  where
    by : (t : Bool) (j k n : ℕ) → (k ≤ n → j ≡ k) → cond t 1 (suc k) ≤ suc n → cond t 1 (suc j) ≡ cond t 1 (suc k)
    by true j k n g h = refl
    by false j k n g h = ap suc (g (omega arith))

-- the front ends within the first line
line_cut : (n : ℕ) (s : List ℕ) → n < line_length s → line_length (take n s) ≡ n
unfolding line_length
line_cut zero s h = refl
line_cut (suc n) [] h = absurd (omega arith)
line_cut (suc n) (b ∷ s) h = by (eqb b newline) (line_length (take n s)) (line_length s) n (line_cut n s) h
  where
    by : (t : Bool) (j k n : ℕ) → (n < k → j ≡ n) → suc n < cond t 1 (suc k) → cond t 1 (suc j) ≡ suc n
    by true j k n g h = absurd (omega arith)
    by false j k n g h = ap suc (g (omega arith))

-- the front of the rest
drop_take : (k n : ℕ) (s : List ℕ) → k ≤ n → drop k (take n s) ≡ take (n - k) (drop k s)
drop_take zero n s h = let e : n - 0 ≡ n = omega arith in rw e
drop_take (suc k) zero s h = absurd (omega arith)
drop_take (suc k) (suc n) [] h = sym (take-nil (suc n - suc k))
drop_take (suc k) (suc n) (b ∷ s) h =
    let e : suc n - suc k ≡ n - k = omega arith in
    rw e (drop_take k n s (omega arith))

-- ---- readings that look at no more than k + 1 bytes

-- the first k + 1 bytes decide, and what is good has at most k
record Bounded {B : Type 0} (k : ℕ) (R : List ℕ → Result B Refusal) : Type 0 where
  front : (n : ℕ) (s : List ℕ) → k < n → R (take n s) ≡ R s
  short : (s : List ℕ) (b : B) → R s ≡ Ok b → length s ≤ k

-- it is enough to know this of texts of some bytes
module _ {B : Type 0} (k : ℕ) (R Q : List ℕ → Result B Refusal) (same : (s : List ℕ) → 0 < length s → R s ≡ Q s) (q : Bounded k Q) where
  some_front : (n : ℕ) (s : List ℕ) → k < n → R (take n s) ≡ R s
  some_front n [] h = rw (take-nil n)
  some_front n (b ∷ s) h = same (take n (b ∷ s)) (rw length-take (omega arith)) ∙ q.front n (b ∷ s) h ∙ sym (same (b ∷ s) (omega arith))

  some_short : (s : List ℕ) (b : B) → R s ≡ Ok b → length s ≤ k
  some_short [] b e = omega arith
  some_short (c ∷ s) b e = q.short (c ∷ s) b (sym (same (c ∷ s) (omega arith)) ∙ e)

  bounded_some : Bounded k R
  bounded_some = record { front = some_front; short = some_short }

-- what is bad anyhow
bounded_bad : {B : Type 0} (k : ℕ) → Bounded {B = B} k (λ (s : List ℕ). Err PlanInput)
bounded_bad k = record {
  front = λ n s h. refl;
  short = λ s b e. let n : ◌≡◌ {A = ℕ} 0 1 = cc in absurd (omega arith);
}

-- what is done with what was read does not matter
bounded_on : {A B : Type 0} (k : ℕ) (R : List ℕ → Result A Refusal) (next : A → Result B Refusal) → Bounded k R → Bounded k (λ (s : List ℕ). on (R s) next)
bounded_on {A} k R next r = record {
  front = λ n s h. ap (λ (x : Result A Refusal). on x next) (r.front n s h);
  short = λ s b e. let a = both_good (R s) next b e in r.short s a.0 a.1;
}

-- ---- one line, and then the rest

first_length : (s : List ℕ) → length (first s) ≡ line_length s
first_length s = length-take-le (line_length s) s (line_in s)

rest_length : (s : List ℕ) → length s ≡ line_length s + length (rest s)
rest_length s = omega (arith, length-drop (line_length s) s, line_in s)

-- G reads the line and R the rest
turn : {A B : Type 0} → (List ℕ → Result A Refusal) → (A → List ℕ → Result B Refusal) → List ℕ → Result B Refusal
turn G R s = on (G (first s)) (λ a. R a (rest s))

-- what is read after another thing, at each thing
on_same : {A B : Type 0} (x : Result A Refusal) (f g : A → Result B Refusal) → ((a : A) → f a ≡ g a) → on x f ≡ on x g
on_same (Ok a) f g h = h a
on_same (Err r) f g h = refl

-- a line has at most m bytes, and the rest at most k
module _ {A B : Type 0} (m k : ℕ) (G : List ℕ → Result A Refusal) (R : A → List ℕ → Result B Refusal)
    (long : (l : List ℕ) → m < length l → G l ≡ Err PlanInput) (next : (a : A) → Bounded k (R a)) where
  first_long : (s : List ℕ) → m < line_length s → G (first s) ≡ Err PlanInput
  first_long s h = long (first s) (omega (arith, first_length s))

  -- the front ends within the line, which is bad, or holds it
  turn_front : (n : ℕ) (s : List ℕ) → m + k < n → turn G R (take n s) ≡ turn G R s
  unfolding turn
  turn_front n s h =
      ⊎_elim
      (λ c.
      let a : m < line_length (take n s) = rw (line_cut n s c) (omega arith) in
      rw (first_long (take n s) a, first_long s (omega arith)))
      (λ c.
      let l : first (take n s) ≡ first s = rw (line_front n s c) (take-take (line_length s) n s c) in
      let r : rest (take n s) ≡ take (n - line_length s) (rest s) = rw (line_front n s c) (drop_take (line_length s) n s c) in
      rw (l, r)
      (⊎_elim
      (λ d. rw (first_long s d))
      (λ d. on_same (G (first s)) _ _ (λ (a : A). (next a).front (n - line_length s) (rest s) (omega arith)))
      (lt_or_ge m (line_length s))))
      (lt_or_ge n (line_length s))

  -- a good line is not too long
  first_short : (s : List ℕ) (a : A) → G (first s) ≡ Ok a → line_length s ≤ m
  first_short s a e =
      ⊎_elim
      (λ d.
      let z : G (first s) ≡ Err PlanInput = first_long s d in
      let n : ◌≡◌ {A = ℕ} 0 1 = cc in
      absurd (omega arith))
      (λ d. d)
      (lt_or_ge m (line_length s))

  turn_short : (s : List ℕ) (b : B) → turn G R s ≡ Ok b → length s ≤ m + k
  unfolding turn
  turn_short s b e =
      let a = both_good (G (first s)) _ b e in
      omega (arith, rest_length s, first_short s a.0 a.1, (next a.0).short (rest s) b a.2)

  turn_bounded : Bounded (m + k) (turn G R)
  turn_bounded = record { front = turn_front; short = turn_short }

-- ---- the lines of a plan, from the last to the first

module _ (f : ℕ → ℕ) where
  -- at most k rotations
  rotations : ℕ → List ℕ → Result (List NativeNumber) Refusal
  rotations k s = rotation_lines f k (lines s)

  -- one rotation and then at most k
  more : ℕ → NativeNumber → List ℕ → Result (List NativeNumber) Refusal
  more k n s = on (rotations k s) (λ (ns : List NativeNumber). Ok (n ∷ ns))

  -- none may follow, or one and then fewer
  rotations_over : (s : List ℕ) → 0 < length s → rotations 0 s ≡ Err PlanInput
  unfolding rotations rotation_lines
  rotations_over s h = rw (lines_cons s h)

  rotations_turn : (k : ℕ) (s : List ℕ) → 0 < length s → rotations (suc k) s ≡ turn (rotation_line f) (more k) s
  unfolding rotations rotation_lines more turn
  rotations_turn k s h = rw (lines_cons s h)

  more_bounded : (k : ℕ) → Bounded (13 * k) (rotations k) → (n : NativeNumber) → Bounded (13 * k) (more k n)
  unfolding more
  more_bounded k r n = bounded_on (13 * k) (rotations k) (λ (ns : List NativeNumber). Ok (n ∷ ns)) r

  rotations_bounded : (k : ℕ) → Bounded (13 * k) (rotations k)
  rotations_bounded zero =
      bounded_some 0 (rotations 0) (λ (s : List ℕ). Err PlanInput) rotations_over (bounded_bad 0)
  rotations_bounded (suc k) =
      let r = rotations_bounded k in
      let e : 13 * suc k ≡ 13 + 13 * k = omega arith in
      rw e (bounded_some (13 + 13 * k) (rotations (suc k)) (turn (rotation_line f) (more k)) (rotations_turn k)
      (turn_bounded 13 (13 * k) (rotation_line f) (more k) (rotation_long f) (more_bounded k r)))

-- what follows the base, and what follows the pair
module _ (c : CodeMeasurement) where
  behind_base : NativeNumber → List ℕ → Result Plan Refusal
  behind_base base s = plan_from c base (lines s)

  behind_pair : List ℕ → Result Plan Refusal
  behind_pair s = native_lines c (lines s)

  behind_base_bounded : (base : NativeNumber) → Bounded 3328 (behind_base base)
  unfolding behind_base plan_from rotations
  behind_base_bounded base = bounded_on 3328 (rotations (strings_of c) most_rotations) _ (rotations_bounded (strings_of c) most_rotations)

  pair_turn : (s : List ℕ) → behind_pair s ≡ turn (native_line (bytes_of "base=")) behind_base s
  unfolding behind_pair native_lines behind_base turn
  pair_turn s = rw (lines_first s, lines_rest s)

  pair_bounded : Bounded 3337 behind_pair
  pair_bounded =
      bounded_some 3337 behind_pair (turn (native_line (bytes_of "base=")) behind_base) (λ s h. pair_turn s)
      (turn_bounded 9 3328 (native_line (bytes_of "base=")) behind_base (λ l h. native_long (bytes_of "base=") l (omega arith)) behind_base_bounded)

-- the second matrix behind the first
second : List ℕ → List ℕ → Result Plan Refusal
second mx s = turn (matrix_line (bytes_of "my=")) (λ (my : List ℕ). behind_pair (record { mx = mx; my = my })) s

second_bounded : (mx : List ℕ) → Bounded 3377 (second mx)
unfolding second
second_bounded mx =
    turn_bounded 40 3337 (matrix_line (bytes_of "my=")) (λ (my : List ℕ). behind_pair (record { mx = mx; my = my }))
    (λ l h. matrix_long (bytes_of "my=") l (omega arith)) (λ my. pair_bounded (record { mx = mx; my = my }))

plan_turn : (s : List ℕ) → read_plan s ≡ turn (matrix_line (bytes_of "mx=")) second s
unfolding turn second behind_pair
plan_turn s = read_head s

plan_bounded : Bounded 3417 read_plan
plan_bounded =
    bounded_some 3417 read_plan (turn (matrix_line (bytes_of "mx=")) second) (λ s h. plan_turn s)
    (turn_bounded 40 3377 (matrix_line (bytes_of "mx=")) second (λ l h. matrix_long (bytes_of "mx=") l (omega arith)) second_bounded)

-- ---- the whole

-- the first n bytes decide what is read, for any n from 3,418 on
pub read_bounded : (n : ℕ) (s : List ℕ) → 3417 < n → read_plan (take n s) ≡ read_plan s
read_bounded n s h = plan_bounded.front n s h

-- and so do those that a slice of n bytes at most holds
pub front_head : (s : List ℕ) (k n : ℕ) → 3417 < n → k ≡ min (length s) n
    → read_plan s ≡ on (matrix_line (bytes_of "mx=") (first (take k s))) (λ (mx : List ℕ). on (matrix_line (bytes_of "my=") (first (rest (take k s))))
    (λ (my : List ℕ). native_lines (record { mx = mx; my = my }) (lines (rest (rest (take k s))))))
front_head s k n g e =
    let f : read_plan (take k s) ≡ read_plan s =
    ⊎_elim (λ q. read_bounded k s (omega (arith, e, q))) (λ q. ap read_plan (take_all k s q)) (lt_or_ge k (length s)) in
    sym f ∙ read_head (take k s)

pub read_length : (s : List ℕ) (p : Plan) → read_plan s ≡ Ok p → length s ≤ 3417
read_length s p e = plan_bounded.short s p e
