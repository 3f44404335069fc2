-- What is written is read again: a text of whole lines has these lines, a line has its name and its value, and a native's line has the native.
-- Assumes nothing.
use Rattle.std.specs.Prelude.{Ok}
use mathlib.Core.Bool.{true, ◌&&◌, and-eq-true_iff, true≢false}
use mathlib.Core.List.{List, [], ◌∷◌, ◌++◌, map, flatten, append_assoc}
use mathlib.Core.Path.{◌≡◌, refl, sym, ap, ◌∙◌}
use Prim.Native.Nat.{ℕ, zero, suc, ◌+◌, ◌-◌, ◌<◌, ◌≤◌}
use Prim.Native.String.{String}
use native.Mathlib.Omega.{arith}
use lib.Dec.{eqb, ltb, leb}
use lib.ListN.{length, get_or, take, drop, length-append, drop_of_length-le}
use lib.Seq.{split_at, take-add, take-append_seam, drop-append_seam, get_or-append_seam}
use borrow.Author.Tests.{ltb-true, lt-ltb, leb-true, eqb-true, eq-eqb, ne_eqb}
use Rattle.bicycle_common.specs.Bytes.{bytes_of}
use Rattle.text.specs.Decimals.{decimal, is_digit, all_digits}
use Rattle.text.proofs.Written.{number_decimal, decimal_number}
use Rattle.pauli_string.specs.Strings.{qubits}
use Rattle.native_measurement.specs.declared.NativeNumber.{NativeNumber}
use Rattle.native_measurement.specs.Natives.{natives}
use Rattle.table.specs.Plans.{All, Supported}
use Rattle.reader.specs.Lines.{newline, grow, lines, begins, is_line, value_in}
use Rattle.reader.specs.Plans.{numbers, native_line, rotation_line, rotation_lines}

-- ---- whole lines

-- no byte ends a line: each is above 10
abbrev pub Plain : List ℕ → Type 0
Plain v = All (λ (b : ℕ). newline < b) v

pub plain_append : (v w : List ℕ) → Plain v → Plain w → Plain (v ++ w)
plain_append [] w h g = g
plain_append (b ∷ v) w h g = (h.0, plain_append v w h.1 g)

pub digits_plain : (v : List ℕ) → all_digits v ≡ true → Plain v
digits_plain [] e = tt
digits_plain (b ∷ v) e =
    let t = (and-eq-true_iff (is_digit b) (all_digits v)).0 e in
    let d = (and-eq-true_iff (leb 48 b) (leb b 57)).0 t.0 in
    (omega (arith, leb-true 48 b d.0), digits_plain v t.1)

-- a line that ends where it should
abbrev pub Whole : List ℕ → Type 0
Whole l = (v : List ℕ) × Plain v × (l ≡ v ++ newline ∷ [])

abbrev pub Wholes : List (List ℕ) → Type 0
Wholes [] = Unit {0}
Wholes (l ∷ ls) = Whole l × Wholes ls

-- the first line, and the lines behind it
lines_plain : (v t : List ℕ) → Plain v → lines (v ++ newline ∷ t) ≡ (v ++ newline ∷ []) ∷ lines t
unfolding lines
lines_plain [] t h = refl
lines_plain (b ∷ v) t h =
    let n : (b ≡ newline → ⊥) = λ e. omega (arith, h.0) in
    rw (ne_eqb b newline n) (ap (grow b) (lines_plain v t h.1))

lines_whole : (l t : List ℕ) → Whole l → lines (l ++ t) ≡ l ∷ lines t
lines_whole l t (v, p, e) = rw (e, append_assoc v (newline ∷ []) t) (lines_plain v t p)

pub lines_joined : (ls : List (List ℕ)) → Wholes ls → lines (flatten ls) ≡ ls
unfolding flatten lines
lines_joined [] w = refl
lines_joined (l ∷ ls) w = lines_whole l (flatten ls) w.0 ∙ ap (λ (ms : List (List ℕ)). l ∷ ms) (lines_joined ls w.1)

-- ---- one line

-- a line begins with a name exactly where the name stands in front
begins_front : (name l : List ℕ) → begins name l ≡ true → take (length name) l ≡ name
unfolding begins
begins_front [] l e = refl
begins_front (a ∷ name) [] e = absurd (true≢false (sym e))
begins_front (a ∷ name) (b ∷ l) e =
    let t = (and-eq-true_iff (eqb a b) (begins name l)).0 e in
    rw (eqb-true a b t.0, begins_front name l t.1)

begins_itself : (name t : List ℕ) → begins name (name ++ t) ≡ true
unfolding begins
begins_itself [] t = refl
begins_itself (a ∷ name) t = rw (eq-eqb a a refl) (begins_itself name t)

line_end : (l : List ℕ) → 0 < length l → get_or l (length l - 1) 0 ≡ newline → l ≡ take (length l - 1) l ++ newline ∷ []
line_end l h e =
    let d : drop (suc (length l - 1)) l ≡ [] = drop_of_length-le l {i = suc (length l - 1)} (omega arith) in
    split_at l (length l - 1) 0 (omega arith) ∙ rw (e, d)

-- a line is its name, its value and its end
pub line_parts : (name l : List ℕ) → is_line name l ≡ true → l ≡ name ++ value_in name l ++ newline ∷ []
unfolding is_line
line_parts name l e =
    let t = (and-eq-true_iff (begins name l && ltb (length name) (length l)) (eqb (get_or l (length l - 1) 0) newline)).0 e in
    let u = (and-eq-true_iff (begins name l) (ltb (length name) (length l))).0 t.0 in
    parts u.0 (ltb-true (length name) (length l) u.1) (eqb-true (get_or l (length l - 1) 0) newline t.1)
  where
    parts : begins name l ≡ true → length name < length l → get_or l (length l - 1) 0 ≡ newline → l ≡ name ++ value_in name l ++ newline ∷ []
    parts b h z =
        let k : length l - 1 ≡ length name + (length l - 1 - length name) = omega arith in
        line_end l (omega arith) z
        ∙ ap (λ (f : List ℕ). f ++ newline ∷ [])
        (ap (λ (n : ℕ). take n l) k
        ∙ take-add (length name) (length l - 1 - length name) l
        ∙ ap (λ (n : List ℕ). n ++ value_in name l) (begins_front name l b))

module _ (name v : List ℕ) where
  line_length_law : length (name ++ v ++ newline ∷ []) ≡ length name + length v + 1
  line_length_law = rw (length-append, length-append)

  line_last : get_or (name ++ v ++ newline ∷ []) (length (name ++ v ++ newline ∷ []) - 1) 0 ≡ newline
  line_last =
      let k : length (name ++ v ++ newline ∷ []) - 1 ≡ length (name ++ v) = omega (arith, line_length_law, length-append name v) in
      rw k (get_or-append_seam (name ++ v) newline [] 0)

  pub is_line_law : is_line name (name ++ v ++ newline ∷ []) ≡ true
  unfolding is_line
  is_line_law =
      let b : begins name (name ++ v ++ newline ∷ []) ≡ true = rw append_assoc (begins_itself name (v ++ newline ∷ [])) in
      let h : length name < length (name ++ v ++ newline ∷ []) = omega (arith, line_length_law) in
      rw (b, lt-ltb (length name) (length (name ++ v ++ newline ∷ [])) h, line_last)

  value_is_law : value_in name (name ++ v ++ newline ∷ []) ≡ v
  value_is_law =
      let k : length (name ++ v ++ newline ∷ []) - 1 - length name ≡ length v = omega (arith, line_length_law) in
      let d : drop (length name) (name ++ v ++ newline ∷ []) ≡ v ++ newline ∷ [] = rw append_assoc (drop-append_seam name (v ++ newline ∷ [])) in
      rw (k, d) (take-append_seam v (newline ∷ []))

-- ---- natives

-- the line of a native
abbrev pub stating : String → NativeNumber → List ℕ
stating name n = bytes_of name ++ decimal n.0 ++ newline ∷ []

pub native_again : (name : String) (n : NativeNumber) → n.0 < natives → native_line (bytes_of name) (stating name n) ≡ Ok n
unfolding native_line
native_again name n h =
    let v = value_is_law (bytes_of name) (decimal n.0) in
    rw (is_line_law (bytes_of name) (decimal n.0), v, decimal_number n.0 (omega arith), number_decimal n.0, lt-ltb n.0 natives h)

module _ (f : ℕ → ℕ) where
  rotation_again : (n : NativeNumber) → Supported qubits f n.0 → rotation_line f (stating "rotation=" n) ≡ Ok n
  unfolding rotation_line
  rotation_again n h = rw (native_again "rotation=" n h.0, h.1)

  pub rotations_again : (k : ℕ) (ns : List NativeNumber) → All (Supported qubits f) (numbers ns) → length ns ≤ k
      → rotation_lines f k (map (stating "rotation=") ns) ≡ Ok ns
  unfolding rotation_lines
  rotations_again k [] a h = refl
  rotations_again zero (n ∷ ns) a h = absurd (omega arith)
  rotations_again (suc k) (n ∷ ns) a h = rw (rotation_again n a.0, rotations_again k ns a.1 (omega arith))
