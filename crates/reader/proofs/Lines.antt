-- Where lines end, which lines a text has, and how a name is compared byte by byte. Assumes nothing.
use mathlib.Core.Path.{◌≡◌, refl, ap, sym, ◌∙◌}
use mathlib.Core.Bool.{Bool, true, false, cond, ◌&&◌, and-true}
use mathlib.Core.Logic.{⊎_elim}
use mathlib.Core.List.{List, [], ◌∷◌, ◌++◌}
use Prim.Native.Nat.{ℕ, zero, suc, ◌+◌, ◌-◌, ◌≤◌, ◌<◌}
use native.Mathlib.Omega.{arith}
use lib.Dec.{eqb, ltb}
use lib.Pointwise.{pointwise}
use denote.Ref.{Bor}
use denote.Param.Members.{Mut}
use Rattle.std.specs.Prelude.{Option, Some, None, MatchOption, min, not}
use Rattle.std.specs.Fn.{ComputesKey}
use Rattle.std.specs.List.{position, position_or_len, IsFirstMatchOrLen}
use Rattle.std.proofs.Math.Nat.{min-zero, min-eq_left}
use Rattle.bicycle_common.proofs.Ranges.{lt_or_ge}
use lib.ListN.{length, take, drop, get_or, drop_of_length-le, length-drop}
use lib.Seq.{drop-cons, get_or-drop, take-append_seam, drop-append_seam}
use borrow.Author.Tests.{lt-ltb, le-ltb, eqb-true, eq-eqb}
use Rattle.reader.specs.Lines.{newline, ends, grow, lines, line_at, line_length, begins, is_line, value_in}

-- ---- where a line ends

-- behind the first byte 10, at place i
found : (t : Bool) (k n i l : ℕ) → ((j : ℕ) → cond (ltb k n) (Some k) None ≡ Some j → j + 1 ≡ l)
    → cond (ltb (cond (not t) (1 + k) 0) (suc n)) (Some (cond (not t) (1 + k) 0)) None ≡ Some i → i + 1 ≡ cond t 1 (suc l)
found true k n i l h e =
    let p : 0 < suc n = omega arith in
    let s : ◌≡◌ {A = Option ℕ} (Some 0) (Some i) = rw (lt-ltb 0 (suc n) p) at e in
    let z : 0 ≡ i = cc in
    omega arith
found false k n i l h e =
    ⊎_elim
    (λ q.
    let p : 1 + k < suc n = omega arith in
    let s : ◌≡◌ {A = Option ℕ} (Some (1 + k)) (Some i) = rw (lt-ltb (1 + k) (suc n) p) at e in
    let z : 1 + k ≡ i = cc in
    let r : cond (ltb k n) (Some k) None ≡ Some k = rw (lt-ltb k n q) in
    omega (arith, h k r))
    (λ q.
    let p : suc n ≤ 1 + k = omega arith in
    let s : ◌≡◌ {A = Option ℕ} None (Some i) = rw (le-ltb (1 + k) (suc n) p) at e in
    let z : ◌≡◌ {A = ℕ} 0 1 = cc in
    absurd (omega arith))
    (lt_or_ge k n)

-- at the end where there is none
missing : (t : Bool) (k n l : ℕ) → (cond (ltb k n) (Some k) None ≡ None → n ≡ l)
    → cond (ltb (cond (not t) (1 + k) 0) (suc n)) (Some (cond (not t) (1 + k) 0)) None ≡ None → suc n ≡ cond t 1 (suc l)
missing true k n l h e =
    let p : 0 < suc n = omega arith in
    let s : ◌≡◌ {A = Option ℕ} (Some 0) None = rw (lt-ltb 0 (suc n) p) at e in
    let z : ◌≡◌ {A = ℕ} 0 1 = cc in
    absurd (omega arith)
missing false k n l h e =
    ⊎_elim
    (λ q.
    let p : 1 + k < suc n = omega arith in
    let s : ◌≡◌ {A = Option ℕ} (Some (1 + k)) None = rw (lt-ltb (1 + k) (suc n) p) at e in
    let z : ◌≡◌ {A = ℕ} 0 1 = cc in
    absurd (omega arith))
    (λ q.
    let r : cond (ltb k n) (Some k) None ≡ None = rw (le-ltb k n q) in
    omega (arith, h r))
    (lt_or_ge k n)

pub line_found : (s : List ℕ) (i : ℕ) → position ends s ≡ Some i → i + 1 ≡ line_length s
unfolding line_length
line_found [] i e = let z : ◌≡◌ {A = ℕ} 0 1 = cc in absurd (omega arith)
line_found (b ∷ s) i e = found (eqb b newline) (position_or_len ends s) (length s) i (line_length s) (line_found s) e

pub line_missing : (s : List ℕ) → position ends s ≡ None → length s ≡ line_length s
unfolding line_length
line_missing [] e = refl
line_missing (b ∷ s) e = missing (eqb b newline) (position_or_len ends s) (length s) (line_length s) (line_missing s) e

-- ---- a line's name, value and end

same_test : (s t : Bool) → (s ≡ true → t ≡ true) → (t ≡ true → s ≡ true) → s ≡ t
same_test true t f g = sym (f refl)
same_test false true f g = g refl
same_test false false f g = refl

eqb_sym : (a b : ℕ) → eqb a b ≡ eqb b a
eqb_sym a b = same_test (eqb a b) (eqb b a) (λ e. eq-eqb b a (sym (eqb-true a b e))) (λ e. eq-eqb a b (sym (eqb-true b a e)))

begins_law : (name l : List ℕ) → pointwise eqb (take (length name) l) name ≡ begins name l
unfolding begins
begins_law [] l = refl
begins_law (a ∷ name) [] = refl
begins_law (a ∷ name) (b ∷ l) = rw (begins_law name l, eqb_sym b a)

ends_law : (x : List ℕ) → pointwise eqb (drop (length x - 1) x) (newline ∷ []) ≡ (ltb 0 (length x) && eqb (get_or x (length x - 1) 0) newline)
ends_law [] = refl
ends_law (b ∷ s) =
    let x : List ℕ = b ∷ s in
    let h : length x - 1 < length x = omega arith in
    let n : drop (suc (length x - 1)) x ≡ [] = drop_of_length-le x {i = suc (length x - 1)} (omega arith) in
    let p : 0 < length x = omega arith in
    rw (drop-cons x (length x - 1) 0 h, n, lt-ltb 0 (length x) p, and-true)

module _ (name l : List ℕ) where
  pub no_name : pointwise eqb (take (length name) l) name ≡ false → is_line name l ≡ false
  unfolding is_line
  no_name e = rw (← (begins_law name l), e)

  -- behind the name stands v, which is the value, and an end
  value_by : (x : List ℕ) → pointwise eqb (take (length name) l) name ≡ true → x ≡ drop (length name) l
      → (is_line name l ≡ pointwise eqb (drop (length x - 1) x) (newline ∷ [])) × (take (length x - 1) x ≡ value_in name l)
  unfolding is_line
  value_by x e i =
      let b : begins name l ≡ true = sym (begins_law name l) ∙ e in
      let n : length x ≡ length l - length name = ap length i ∙ length-drop (length name) l in
      let k : length x - 1 ≡ length l - 1 - length name = omega arith in (
        ⊎_elim
            (λ h.
            let p : 0 < length x = omega arith in
            let m : length name + (length x - 1) ≡ length l - 1 = omega arith in
            let g : get_or x (length x - 1) 0 ≡ get_or l (length l - 1) 0 =
            ap (λ (y : List ℕ). get_or y (length x - 1) 0) i ∙ get_or-drop (length name) l (length x - 1) 0 ∙ ap (λ (j : ℕ). get_or l j 0) m in
            rw (b, ends_law x, lt-ltb 0 (length x) p, lt-ltb (length name) (length l) h, g))
            (λ h.
            let p : length x ≤ 0 = omega arith in
            rw (b, ends_law x, le-ltb 0 (length x) p, le-ltb (length name) (length l) h))
            (lt_or_ge (length name) (length l)),
        rw (← k, ← i),
      )

  pub value_found : (x : List ℕ) (o : Option (Bor (List ℕ))) → pointwise eqb (take (length name) l) name ≡ true → x ≡ drop (length name) l
      → MatchOption o (pointwise eqb (drop (length x - 1) x) (newline ∷ []) ≡ false)
      (λ v. (pointwise eqb (drop (length x - 1) x) (newline ∷ []) ≡ true) × (v.now ≡ take (length x - 1) x) × (length v.now + 1 ≡ length x))
      → MatchOption o (is_line name l ≡ false) (λ v. (is_line name l ≡ true) × (v.now ≡ value_in name l))
  value_found x None e i h = (value_by x e i).0 ∙ h
  value_found x (Some v) e i h = ((value_by x e i).0 ∙ h.0, h.1 ∙ (value_by x e i).1)

-- ---- the first line and the others

by_ten : (t : Bool) (b : ℕ) (s : List ℕ) → grow b (lines s) ≡ (b ∷ take (line_length s) s) ∷ lines (drop (line_length s) s)
    → cond t ((b ∷ []) ∷ lines s) (grow b (lines s)) ≡ take (cond t 1 (suc (line_length s))) (b ∷ s) ∷ lines (drop (cond t 1 (suc (line_length s))) (b ∷ s))
by_ten true b s h = refl
by_ten false b s h = h

lines_cons' : (b : ℕ) (s : List ℕ) → lines (b ∷ s) ≡ take (line_length (b ∷ s)) (b ∷ s) ∷ lines (drop (line_length (b ∷ s)) (b ∷ s))
unfolding lines line_length
lines_cons' b [] = by_ten (eqb b newline) b [] refl
lines_cons' b (a ∷ s) = by_ten (eqb b newline) b (a ∷ s) (ap (grow b) (lines_cons' a s))

pub lines_cons : (s : List ℕ) → 0 < length s → lines s ≡ take (line_length s) s ∷ lines (drop (line_length s) s)
lines_cons [] h = absurd (omega arith)
lines_cons (b ∷ s) h = lines_cons' b s

pub lines_first : (s : List ℕ) → line_at 0 (lines s) ≡ take (line_length s) s
unfolding lines line_length
lines_first [] = refl
lines_first (b ∷ s) = ap (line_at 0) (lines_cons' b s)

pub lines_rest : (s : List ℕ) → drop 1 (lines s) ≡ lines (drop (line_length s) s)
unfolding lines line_length
lines_rest [] = refl
lines_rest (b ∷ s) = ap (λ (ls : List (List ℕ)). drop 1 ls) (lines_cons' b s)

pub lines_none : (s : List ℕ) → length s ≡ 0 → lines s ≡ []
unfolding lines
lines_none [] h = refl
lines_none (b ∷ s) h = absurd (omega arith)

pub line_in : (s : List ℕ) → line_length s ≤ length s
unfolding line_length
line_in [] = omega arith
line_in (b ∷ s) = in_by (eqb b newline) (line_length s) (length s) (line_in s)
  where
    in_by : (t : Bool) (k n : ℕ) → k ≤ n → cond t 1 (suc k) ≤ suc n
    in_by true k n h = omega arith
    in_by false k n h = omega arith

-- ---- the first line as it is cut off

cut_at : (s : List ℕ) (i : ℕ) → IsFirstMatchOrLen ends s i → min (i + 1) (length s) ≡ line_length s
unfolding line_length
cut_at [] i h = min-zero (i + 1)
cut_at (b ∷ s) zero h =
    let t : eqb b newline ≡ true = h.1 (omega arith) 0 in
    rw t (min-eq_left (omega arith))
cut_at (b ∷ s) (suc i) h =
    let t : eqb b newline ≡ false = h.0 0 0 (omega arith) (omega arith) in
    let r = cut_at s i ((λ k d l m. h.0 (suc k) d (omega arith) (omega arith)), (λ l d. h.1 (omega arith) d)) in
    rw t (omega (arith, r))

-- a piece that `split_inclusive` yields where the closure tells the ends, and what is left behind it
pub cut : {F : Type 0} {g : Mut F (Bor ℕ × Unit {0}) Bool} {f f' : F} {s x t : List ℕ}
    → (s ≡ x ++ t) × ((i : ℕ) × (length x ≡ min (i + 1) (length s)) × ((p : ℕ → Bool) → ComputesKey g p f → ComputesKey g p f' × IsFirstMatchOrLen p s i)) × (0 < length s)
    → ComputesKey g ends f → (x ≡ take (line_length s) s) × (t ≡ drop (line_length s) s)
cut {s = s} {x = x} {t = t} q h =
    let k : length x ≡ line_length s = q.1.1 ∙ cut_at s q.1.0 (q.1.2 ends h).1 in
    (rw (← k, q.0) (sym (take-append_seam x t)), rw (← k, q.0) (sym (drop-append_seam x t)))
