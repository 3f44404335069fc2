-- A listing's own `base=` and `rotation=` lines, put behind the matrices, are read back to the same plan: the listing is a text of whole lines,
-- of which these are kept. Assumes nothing.
use Rattle.std.specs.Prelude.{Ok}
use mathlib.Core.List.{List, [], ◌∷◌, ◌++◌, map, reverse, flat_map, flatten, append_assoc}
use mathlib.Core.Path.{◌≡◌, refl, sym, ap, ◌∙◌}
use Prim.Native.Nat.{ℕ, ◌<◌}
use Prim.Native.String.{String}
use native.Mathlib.Omega.{arith}
use lib.ListN.{length}
use borrow.Author.Tests.{ne_eqb}
use Rattle.bicycle_common.specs.declared.Pauli.{Pauli}
use Rattle.bicycle_common.specs.declared.Pauli.TheVariants.{I, X, Z, Y}
use Rattle.bicycle_common.specs.declared.BicycleISA.{BicycleISA}
use Rattle.bicycle_common.specs.declared.BicycleISA.TheVariants.{Automorphism, Measure}
use Rattle.bicycle_common.specs.Bytes.{bytes_of}
use Rattle.bicycle_common.specs.Letters.{capital}
use Rattle.bicycle_common.specs.Instructions.{instruction_text}
use Rattle.text.specs.Decimals.{decimal}
use Rattle.text.proofs.Written.{decimal_digits}
use Rattle.pauli_string.specs.Strings.{qubits}
use Rattle.pauli_string.specs.Text.{letters, text}
use Rattle.native_measurement.specs.declared.NativeNumber.{NativeNumber}
use Rattle.native_measurement.specs.Answers.{implementation_at}
use Rattle.compile.specs.Expansions.{rotation_by, expansion, spaced, expansion_text}
use Rattle.reader.specs.Lines.{newline, lines, line_at, begins, value_in}
use Rattle.reader.specs.Plans.{Plan, strings_of, measured, most_rotations, matrix_line, plan_from, native_lines, read_lines, read_plan}
use Rattle.reader.specs.Sound.{Sound}
use Rattle.reader.proofs.Good.{matrix_shape}
use Rattle.reader.proofs.Sound.{read_parts, read_sound}
use Rattle.reader.proofs.Again.{Plain, plain_append, digits_plain, Whole, Wholes, lines_joined, line_parts, stating, native_again, rotations_again}
use Rattle.listing.specs.Stated.{native_only, stated, matrices}
use Rattle.listing.specs.Listings.{line_of, base_text, rotation_text, rotations_text, shifts, listing, plan_text, text_of, output}

-- ---- no byte of a value ends a line

capital_plain : (l : Pauli) → newline < capital l
capital_plain I = omega arith
capital_plain X = omega arith
capital_plain Z = omega arith
capital_plain Y = omega arith

letters_plain : (ls : List Pauli) → Plain (map capital ls)
letters_plain [] = tt
letters_plain (l ∷ ls) = (capital_plain l, letters_plain ls)

text_plain : (q p : ℕ) → Plain (text q p)
unfolding text
text_plain q p = letters_plain (reverse (letters q p))

decimal_plain : (n : ℕ) → Plain (decimal n)
decimal_plain n = digits_plain (decimal n) (decimal_digits n)

instruction_plain : (i : BicycleISA) → Plain (instruction_text i)
instruction_plain (Automorphism a) = omega arith
instruction_plain (Measure b) = omega (arith, capital_plain b.p1, capital_plain b.p7)

expansion_plain : (is : List BicycleISA) → Plain (expansion_text is)
unfolding spaced
expansion_plain [] = tt
expansion_plain (i ∷ []) = instruction_plain i
expansion_plain (i ∷ j ∷ is) = plain_append (instruction_text i) _ (instruction_plain i) (omega arith, expansion_plain (j ∷ is))

-- ---- the lines of a listing

-- the line of an expansion
expanding : List BicycleISA → List ℕ
expanding is = line_of "expand=" (expansion_text is)

-- a line of plain text is whole
whole_line : (name v : List ℕ) → Plain name → Plain v → Whole (name ++ v ++ newline ∷ [])
whole_line name v h g = (name ++ v, plain_append name v h g, refl)

stating_whole : (name : String) (n : NativeNumber) → Plain (bytes_of name) → Whole (stating name n)
stating_whole name n h = whole_line (bytes_of name) (decimal n.0) h (decimal_plain n.0)

expanding_whole : (is : List BicycleISA) → Whole (expanding is)
unfolding expanding
expanding_whole is = whole_line (bytes_of "expand=") (expansion_text is) (omega arith) (expansion_plain is)

-- the rotations' lines, what they are joined, that they are whole, and what is kept of them
module _ (f : ℕ → ℕ) where
  rotation_pieces : List NativeNumber → List (List ℕ)
  rotation_pieces [] = []
  rotation_pieces (n ∷ ns) = stating "rotation=" n ∷ expanding (expansion (rotation_by qubits n.0 (f n.0))) ∷ rotation_pieces ns

  rotations_joined : (ns : List NativeNumber) → rotations_text f ns ≡ flatten (rotation_pieces ns)
  unfolding rotations_text rotation_text rotation_pieces expanding flatten
  rotations_joined [] = refl
  rotations_joined (n ∷ ns) = rw (rotations_joined ns, append_assoc (stating "rotation=" n))

  rotations_whole : (ns : List NativeNumber) → Wholes (rotation_pieces ns)
  unfolding rotation_pieces
  rotations_whole [] = tt
  rotations_whole (n ∷ ns) =
      (stating_whole "rotation=" n (omega arith), (expanding_whole _, rotations_whole ns))

  rotations_stated : (ns : List NativeNumber) → flat_map native_only (rotation_pieces ns) ≡ flatten (map (stating "rotation=") ns)
  unfolding flat_map flatten rotation_pieces expanding begins
  rotations_stated [] = refl
  rotations_stated (n ∷ ns) = ap (λ (r : List ℕ). stating "rotation=" n ++ r) (rotations_stated ns)

-- the lines of a listing are joined from the left, and the base's two by themselves
right_nested : (a b c d e r : List ℕ) → a ++ b ++ c ++ (d ++ e) ++ r ≡ a ++ (b ++ (c ++ (d ++ (e ++ r))))
right_nested a b c d e r = simp append_assoc

-- and the same of all lines
module _ (p : Plan) where
  plan_pieces : List (List ℕ)
  plan_pieces =
      line_of "measures=" (text qubits (measured p))
      ∷ line_of "count=" (decimal (length p.rotations))
      ∷ line_of "shifts=" (decimal (shifts p.base p.rotations))
      ∷ stating "base=" p.base
      ∷ expanding (expansion (implementation_at p.base.0))
      ∷ rotation_pieces (strings_of p.pair) p.rotations

  plan_joined : plan_text p ≡ flatten plan_pieces
  unfolding plan_text listing base_text plan_pieces expanding flatten
  plan_joined =
      rw (rotations_joined (strings_of p.pair) p.rotations)
      (right_nested (line_of "measures=" (text qubits (measured p))) (line_of "count=" (decimal (length p.rotations)))
      (line_of "shifts=" (decimal (shifts p.base p.rotations))) (stating "base=" p.base)
      (expanding (expansion (implementation_at p.base.0))) (flatten (rotation_pieces (strings_of p.pair) p.rotations)))

  plan_whole : Wholes plan_pieces
  unfolding plan_pieces
  plan_whole = (
    whole_line (bytes_of "measures=") (text qubits (measured p)) (omega arith) (text_plain qubits (measured p)),
    (
      whole_line (bytes_of "count=") (decimal (length p.rotations)) (omega arith) (decimal_plain (length p.rotations)),
      (
        whole_line (bytes_of "shifts=") (decimal (shifts p.base p.rotations)) (omega arith) (decimal_plain (shifts p.base p.rotations)),
        (
          stating_whole "base=" p.base (omega arith),
          (
            expanding_whole _,
            rotations_whole (strings_of p.pair) p.rotations,
          ),
        ),
      ),
    ),
  )

  -- the lines that state its natives
  own_lines : List (List ℕ)
  own_lines = stating "base=" p.base ∷ map (stating "rotation=") p.rotations

  plan_stated : stated (plan_text p) ≡ flatten own_lines
  unfolding stated flat_map flatten own_lines plan_pieces expanding begins
  plan_stated =
      ap (flat_map native_only) (ap lines plan_joined ∙ lines_joined plan_pieces plan_whole)
      ∙ ap (λ (r : List ℕ). stating "base=" p.base ++ r) (rotations_stated (strings_of p.pair) p.rotations)

-- ---- read back

-- a good matrix line is its name, digits and its end
matrix_whole : (name l m : List ℕ) → Plain name → matrix_line name l ≡ Ok m → Whole l
matrix_whole name l m h e =
    let s = matrix_shape name l m e in
    (name ++ value_in name l, plain_append name (value_in name l) h (digits_plain (value_in name l) s.1), line_parts name l s.0)

own_whole : (ns : List NativeNumber) → Wholes (map (stating "rotation=") ns)
own_whole [] = tt
own_whole (n ∷ ns) = (stating_whole "rotation=" n (omega arith), own_whole ns)

-- the plan's own lines behind two lines with its matrices
module _ (p : Plan) (x y : List ℕ) (ex : matrix_line (bytes_of "mx=") x ≡ Ok p.pair.mx) (ey : matrix_line (bytes_of "my=") y ≡ Ok p.pair.my)
    (s : Sound p) where
  again_lines : read_lines (x ∷ y ∷ own_lines p) ≡ Ok p
  unfolding read_lines native_lines plan_from own_lines
  again_lines =
      rw (
        ex,
        ey,
        native_again "base=" p.base s.gives.base_below,
        rotations_again (strings_of p.pair) most_rotations p.rotations s.gives.supported s.few,
        ne_eqb (measured p) 0 s.some,
      )

  again : read_plan (x ++ y ++ flatten (own_lines p)) ≡ Ok p
  unfolding read_plan flatten own_lines
  again =
      ap read_lines
      (ap lines (append_assoc x y (flatten (own_lines p)))
      ∙ lines_joined (x ∷ y ∷ own_lines p) (
        matrix_whole (bytes_of "mx=") x p.pair.mx (omega arith) ex,
        (
          matrix_whole (bytes_of "my=") y p.pair.my (omega arith) ey,
          (stating_whole "base=" p.base (omega arith), own_whole p.rotations),
        ),
      ))
      ∙ again_lines

pub read_back : (s : List ℕ) (p : Plan) → read_plan s ≡ Ok p → read_plan (matrices s ++ stated (output s)) ≡ Ok p
read_back s p e =
    let h = read_parts s p e in
    let o : output s ≡ plan_text p = unfold output in rw e in
    rw (o, plan_stated p) (again p (line_at 0 (lines s)) (line_at 1 (lines s)) h.mx h.my (read_sound s p e))

-- and listed as before
pub list_back : (s : List ℕ) (p : Plan) → read_plan s ≡ Ok p → output (matrices s ++ stated (output s)) ≡ output s
list_back s p e =
    let o : (t : List ℕ) → output t ≡ text_of (read_plan t) = λ t. unfold output in refl in
    o (matrices s ++ stated (output s)) ∙ ap text_of (read_back s p e ∙ sym e) ∙ sym (o s)
