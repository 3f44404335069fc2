-- What holds of strings, letters and text, at the twelve qubits of the architecture. Each is a case of a law over any number of
-- qubits, in `pauli_string`. Assumes nothing.
use Rattle.std.specs.Prelude.{◌≡◌, refl, true, false, ◌↔◌, List, map, reverse, ℕ, ◌^◌, ◌<◌, length, Err}
use Rattle.std.proofs.Common.{sym, ap, subst, ◌∙◌, lit<}
use Rattle.std.specs.Bool.{beq}
use Rattle.std.specs.Int.Bits.{bit_xor}
use Rattle.bicycle_common.specs.declared.Pauli.{Pauli}
use Rattle.bicycle_common.specs.declared.Refusal.TheVariants.{NotLetters}
use Rattle.bicycle_common.specs.Bytes.{bytes_of, upper}
use Rattle.bicycle_common.specs.Letters.{read_letter}
use Rattle.pauli_string.specs.Strings.{qubits, letter_at, commute, conj, has_pivot, rotate, logical_bits, rotation_of}
use Rattle.pauli_string.specs.Text.{letters, number, string_of, text, letter_of, all_letters, is_text, spelled}
use Rattle.pauli_string.specs.Answers.{string, read_text}
use Rattle.pauli_string.proofs.Commutation as Commutation
use Rattle.pauli_string.proofs.Pivot as Pivot
use Rattle.pauli_string.proofs.Rotation as Rotation
use Rattle.pauli_string.proofs.Text as Text

-- ---- commutation is symmetric and bilinear, and a string commutes with itself

pub commutes_both_ways : (p r : ℕ) → commute qubits p r ≡ commute qubits r p
commutes_both_ways p r = Commutation.commute_sym qubits p r

pub commutes_with_itself : (p : ℕ) → commute qubits p p ≡ true
commutes_with_itself p = Commutation.commute_self qubits p

-- a product commutes with s exactly when both factors do, or neither
pub product_commutes : (p r s : ℕ) → commute qubits (bit_xor p r) s ≡ beq (commute qubits p s) (commute qubits r s)
product_commutes p r s = Commutation.commute_product qubits p r s

-- ---- conjugation undoes itself, keeps a nonzero string nonzero and stays among the strings

pub conjugation_undoes_itself : (p r : ℕ) → conj qubits (conj qubits p r) r ≡ p
conjugation_undoes_itself p r = Commutation.conj_conj qubits p r

pub conjugation_keeps_nonzero : (p r : ℕ) → conj qubits p r ≡ 0 → p ≡ 0
conjugation_keeps_nonzero p r e = Commutation.conj_nonzero qubits p r e

pub conjugation_in_range : (p r : ℕ) → p < 4 ^ qubits → r < 4 ^ qubits → conj qubits p r < 4 ^ qubits
conjugation_in_range p r hp hr = Commutation.conj_lt qubits 24 p r hp hr

-- conjugation by a blanked string, a rotation, keeps the pivot letter
pub rotation_keeps_pivot : (p r : ℕ) → letter_at qubits (rotate qubits p r) 0 ≡ letter_at qubits p 0
rotation_keeps_pivot p r = Pivot.rotate_pivot qubits p r (lit< tt)

-- ---- `logical_bits` undoes `rotation`, and the other way round on strings with a blank pivot

pub logical_undoes_rotation : (n : ℕ) → logical_bits qubits (rotation_of qubits n) ≡ n
logical_undoes_rotation n = Rotation.logical_rotation 11 n

pub rotation_undoes_logical : (p : ℕ) → has_pivot qubits p ≡ false → rotation_of qubits (logical_bits qubits p) ≡ p
rotation_undoes_logical p h = Rotation.rotation_logical_blank 11 p h

-- ---- letters to string to letters, and back

pub letters_come_back : (ls : List Pauli) → length ls ≡ qubits → letters qubits (string_of qubits ls) ≡ ls
letters_come_back ls e = Text.letters_of_string qubits ls e

pub string_comes_back : (p : ℕ) → p < 4 ^ qubits → string_of qubits (letters qubits p) ≡ p
string_comes_back p h = Text.string_of_letters qubits p h

-- ---- text

-- reading what was printed gives the string back
pub printed_reads_back : (p : ℕ) → p < 4 ^ qubits → read_text qubits (text qubits p) ≡ string p
printed_reads_back p h = Text.read_good qubits (text qubits p) (Text.text_is_text qubits p) ∙ ap string (Text.spelled_text qubits p h)

-- qubit 11 stands first
pub first_letter_is_qubit_11 : (read_text qubits (bytes_of "XIIIIIIIIIII") ≡ string 2048) × (read_text qubits (bytes_of "IIIIIIIIIIIX") ≡ string 1)
unfolding read_letter letter_of all_letters is_text number string_of spelled
first_letter_is_qubit_11 = (refl, refl)

-- for every text s that is read as the string p
module _ (s : List ℕ) (p : ℕ) (read : read_text qubits s ≡ string p) where
  is_text_law : is_text qubits s ≡ true
  is_text_law = (Text.read_as qubits s p read).0

  spells : spelled qubits s ≡ p
  spells = (Text.read_as qubits s p read).1

  in_range : p < 4 ^ qubits
  in_range = subst (λ (n : ℕ). n < 4 ^ qubits) spells (Text.spelled_lt qubits s is_text_law)

  -- it prints back as its capitals
  pub accepted_prints_capitals : text qubits p ≡ map upper s
  accepted_prints_capitals = ap (text qubits) (sym spells) ∙ Text.text_spelled qubits s is_text_law

  -- the mirror: read backwards it is the string with its letters in reverse order
  pub mirrored : read_text qubits (reverse s) ≡ string (string_of qubits (reverse (letters qubits p)))
  mirrored =
      Text.read_good qubits (reverse s) (Text.mirror_text qubits s ∙ is_text_law)
      ∙ ap string (Text.mirror_spells qubits s is_text_law ∙ ap (λ (n : ℕ). string_of qubits (reverse (letters qubits n))) spells)

  -- so it is the same string exactly when the letters form a palindrome
  pub mirrored_is_same : (read_text qubits (reverse s) ≡ string p) ↔ (reverse (letters qubits p) ≡ letters qubits p)
  mirrored_is_same =
      let both = Text.palindrome qubits p in_range in
      (λ e. both.0 (Text.string_inj (string_of qubits (reverse (letters qubits p))) p (sym mirrored ∙ e)), λ e. mirrored ∙ ap string (both.1 e))

-- a text that is refused is refused backwards too
pub mirrored_is_refused : (s : List ℕ) → read_text qubits s ≡ Err NotLetters → read_text qubits (reverse s) ≡ Err NotLetters
mirrored_is_refused s e = Text.read_bad qubits (reverse s) (Text.mirror_text qubits s ∙ Text.refused_as qubits s e)
