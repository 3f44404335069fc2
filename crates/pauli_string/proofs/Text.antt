-- Letters to string to letters, text to string to text, and what the mirror does to text. Assumes nothing.
use Rattle.std.specs.Prelude.{Result, Ok, Err}
use Rattle.bicycle_common.specs.declared.Refusal.{Refusal}
use mathlib.Core.Path.{◌≡◌, refl, sym, ap, ap₂, ◌∙◌, subst}
use mathlib.Core.Bool.{Bool, true, false, cond, ◌&&◌, and-eq-true_iff, and-true, and-false, and_assoc, and_comm}
use mathlib.Core.Logic.{◌↔◌}
use mathlib.Mathlib.Data.List.Basic.{map-reverse_aux}
use mathlib.Core.List.{List, [], ◌∷◌, ◌++◌, map, map-append, reverse, reverse-cons, reverse-append, reverse-reverse}
use Prim.Native.Nat.{ℕ, zero, suc, ◌+◌, ◌-◌, ◌*◌, ◌/◌, ◌%◌, ◌^◌, ◌≤◌, ◌<◌}
use native.Mathlib.Nat.{mod-lt, le_of_suc-le-suc, not-suc-le-zero, le_refl, div-one, pow-suc, lt_of_lt_of_le}
use native.Mathlib.Numerals.{add-one, one-add}
use native.Mathlib.Omega.{arith}
use lib.Dec.{eqb}
use borrow.Author.Tests.{eq-eqb, ne_eqb, eqb-true}
use lib.Arith.{digits_lt, lt-one}
use lib.Pow.{pow_pos, pow_mono, pow-add, split, shr-shr, shr_mod, mod-pow-add, high, low}
use lib.ListN.{length, get_or, take, drop, set, length-set, length-map, length-reverse, length-drop, get_or-map}
use lib.Seq.{drop-cons, drop-length, take-suc, take_all, ext_get_or}
use Rattle.bicycle_common.specs.declared.Pauli.{Pauli}
use Rattle.bicycle_common.specs.declared.Pauli.TheVariants.{I}
use Rattle.bicycle_common.specs.Bytes.{upper}
use Rattle.bicycle_common.specs.Letters.{x_of, z_of, letter, capital, read_letter}
use Rattle.bicycle_common.specs.Ranges.{list_from}
use Rattle.bicycle_common.proofs.Ranges.{length_from, listed_at}
use Rattle.bicycle_common.proofs.Letters.{x_of_lt, z_of_lt, letter_digits, digit_x, digit_z, read_capital, read_upper}
use Rattle.bicycle_common.specs.declared.Refusal.TheVariants.{NotLetters}
use Rattle.pauli_string.specs.declared.PauliString.{PauliString}
use Rattle.pauli_string.specs.Strings.{bit, letter_at}
use Rattle.pauli_string.specs.Answers.{string, read_text}
use Rattle.pauli_string.specs.Text.{letters, number, string_of, text, good, the_letter, letter_of, all_letters, is_text, spelled}
use Rattle.pauli_string.proofs.Digits.{bit_lt, bit_first, bit_high, bit_low}
use Rattle.pauli_string.proofs.Lists.{get_d_reverse, drop_set}

-- ---- arrays of letters

pub length_letters : (q p : ℕ) → length (letters q p) ≡ q
unfolding letters
length_letters q p = length_from (letter_at q p) 0 q

pub letters_at : (q p i : ℕ) → i < q → get_or (letters q p) i I ≡ letter_at q p i
unfolding letters
letters_at q p i h = listed_at (letter_at q p) I q i h

-- ---- the number of a list of digits

module _ (f : Pauli → ℕ) (f_lt : (l : Pauli) → f l < 2) where
  pub number_lt : (ls : List Pauli) → number f ls < 2 ^ length ls
  unfolding number
  number_lt [] = le_refl 1
  number_lt (l ∷ ls) = subst (λ (n : ℕ). number f ls * 2 + f l < n) (sym (pow-suc 2 (length ls))) (digits_lt (number_lt ls) (f_lt l))

  pub number_bit : (ls : List Pauli) (i : ℕ) → i < length ls → bit (number f ls) i ≡ f (get_or ls i I)
  unfolding number
  number_bit [] i h = absurd (not-suc-le-zero h)
  number_bit (l ∷ ls) zero h = bit_first (number f ls * 2 + f l) ∙ low (number f ls) 1 (f_lt l)
  number_bit (l ∷ ls) (suc i) h =
      ap (bit (number f ls * 2 + f l)) (sym (one-add i)) ∙ sym (bit_high (number f ls * 2 + f l) 1 i)
      ∙ ap (λ (n : ℕ). bit n i) (high (number f ls) 1 (f_lt l)) ∙ number_bit ls i (le_of_suc-le-suc h)

  -- what a loop from the last letter down keeps
  pub number_small : (ls : List Pauli) (n i : ℕ) → length ls ≡ n → number f (drop i ls) < 2 ^ n
  number_small ls n i e = lt_of_lt_of_le (number_lt (drop i ls)) (pow_mono (omega (arith, length-drop i ls)))

pub number_step : (f : Pauli → ℕ) (ls : List Pauli) (i : ℕ) → 0 < i → i ≤ length ls
    → number f (drop (i - 1) ls) ≡ number f (drop i ls) * 2 + f (get_or ls (i - 1) I)
unfolding number
number_step f ls i h k =
    let e : suc (i - 1) ≡ i = omega arith in
    ap (number f) (drop-cons ls (i - 1) I (omega arith)) ∙ ap (λ (j : ℕ). number f (drop j ls) * 2 + f (get_or ls (i - 1) I)) e

-- ---- letters to string to letters, and back

pub letters_of_string : (q : ℕ) (ls : List Pauli) → length ls ≡ q → letters q (string_of q ls) ≡ ls
unfolding string_of letter_at
letters_of_string q ls e = ext_get_or I (letters q (string_of q ls)) ls (length_letters q (string_of q ls) ∙ sym e) at
  where
    at : (i : ℕ) → i < length (letters q (string_of q ls)) → get_or (letters q (string_of q ls)) i I ≡ get_or ls i I
    at i h =
        let x : ℕ = number x_of ls in
        let z : ℕ = number z_of ls in
        let hx : number x_of ls < 2 ^ q = number_small x_of x_of_lt ls q 0 e in
        let n : length (letters q (string_of q ls)) ≡ q = length_letters q (string_of q ls) in
        let hq : i < q = omega arith in
        let hl : i < length ls = omega arith in
        letters_at q (string_of q ls) i hq
        ∙ ap₂ letter
        (sym (bit_low (z * 2 ^ q + x) q i hq) ∙ ap (λ (m : ℕ). bit m i) (low z q hx) ∙ number_bit x_of x_of_lt ls i hl)
        (sym (bit_high (z * 2 ^ q + x) q i) ∙ ap (λ (m : ℕ). bit m i) (high z q hx) ∙ number_bit z_of z_of_lt ls i hl)
        ∙ letter_digits (get_or ls i I)

-- the digits that f reads off the letters of p are those of n
number_from_law : (f : Pauli → ℕ) (q p n : ℕ) → ((i : ℕ) → f (letter_at q p i) ≡ bit n i) → (i k : ℕ) → number f (list_from (letter_at q p) i k) ≡ n / 2 ^ i % 2 ^ k
unfolding number list_from bit
number_from_law f q p n h i zero = sym (lt-one (mod-lt (n / 2 ^ i) (pow_pos zero)))
number_from_law f q p n h i (suc k) =
    ap₂ (λ (a b : ℕ). a * 2 + b)
    (number_from_law f q p n h (suc i) k ∙ ap (λ (m : ℕ). m % 2 ^ k) (ap (λ (m : ℕ). n / 2 ^ m) (sym (add-one i)) ∙ sym (shr-shr n i 1)))
    (h i)
    ∙ sym (ap (λ (m : ℕ). n / 2 ^ i % 2 ^ m) (sym (add-one k)) ∙ mod-pow-add (n / 2 ^ i) k 1)

pub string_of_letters : (q p : ℕ) → p < 2 ^ (q + q) → string_of q (letters q p) ≡ p
unfolding string_of letters letter_at
string_of_letters q p h =
    ap₂ (λ (a b : ℕ). a * 2 ^ q + b)
    (number_from_law z_of q p (p / 2 ^ q) (λ i. digit_z (bit p i) (bit p (q + i)) (bit_lt p i) (bit_lt p (q + i)) ∙ sym (bit_high p q i)) 0 q
    ∙ ap (λ (m : ℕ). m % 2 ^ q) (div-one (p / 2 ^ q)) ∙ shr_mod q q h)
    (number_from_law x_of q p p (λ i. digit_x (bit p i) (bit p (q + i)) (bit_lt p i) (bit_lt p (q + i))) 0 q ∙ ap (λ (m : ℕ). m % 2 ^ q) (div-one p))
    ∙ split p q

pub string_lt : (q : ℕ) (ls : List Pauli) → length ls ≡ q → string_of q ls < 2 ^ (q + q)
unfolding string_of
string_lt q ls e =
    subst (λ (m : ℕ). number z_of ls * 2 ^ q + number x_of ls < m) (sym (pow-add 2 q q))
    (digits_lt (number_small z_of z_of_lt ls q 0 e) (number_small x_of x_of_lt ls q 0 e))

-- ---- text

pub length_text : (q p : ℕ) → length (text q p) ≡ q
unfolding text
length_text q p = length-map (reverse (letters q p)) capital ∙ length-reverse (letters q p) ∙ length_letters q p

-- the byte at place i is the capital of the letter on qubit q - 1 - i
pub text_at : (q p i : ℕ) → i < q → get_or (text q p) i (capital I) ≡ capital (letter_at q p (q - 1 - i))
unfolding text
text_at q p i h =
    let n : length (letters q p) ≡ q = length_letters q p in
    get_or-map capital (reverse (letters q p)) i I
    ∙ ap capital
    (get_d_reverse I (letters q p) i (omega arith) ∙ ap (λ (m : ℕ). get_or (letters q p) (m - 1 - i) I) n ∙ letters_at q p (q - 1 - i) (omega arith))

-- reading what was printed gives the letters back
letter_of_capital : (l : Pauli) → letter_of (capital l) ≡ l
unfolding letter_of
letter_of_capital l = ap the_letter (read_capital l)

letters_read : (ls : List Pauli) → map letter_of (map capital ls) ≡ ls
letters_read [] = refl
letters_read (l ∷ ls) = ap₂ (λ (a : Pauli) (m : List Pauli). a ∷ m) (letter_of_capital l) (letters_read ls)

capitals_good : (ls : List Pauli) → all_letters (map capital ls) ≡ true
unfolding all_letters
capitals_good [] = refl
capitals_good (l ∷ ls) = ap₂ (λ (a : Result Pauli Refusal) (b : Bool). good a && b) (read_capital l) (capitals_good ls)

-- s is text where it has the length, and every byte stands for a letter
pub text_good : (q : ℕ) (s : List ℕ) → length s ≡ q → all_letters s ≡ true → is_text q s ≡ true
unfolding is_text
text_good q s e f = ap₂ (λ (a b : Bool). a && b) (eq-eqb (length s) q e) f

pub spelled_text : (q p : ℕ) → p < 2 ^ (q + q) → spelled q (text q p) ≡ p
unfolding spelled text
spelled_text q p h =
    ap (λ (ls : List Pauli). string_of q (reverse ls)) (letters_read (reverse (letters q p)))
    ∙ ap (string_of q) (reverse-reverse (letters q p)) ∙ string_of_letters q p h

pub text_is_text : (q p : ℕ) → is_text q (text q p) ≡ true
unfolding text
text_is_text q p = text_good q (text q p) (length_text q p) (capitals_good (reverse (letters q p)))

-- ---- what accepted text is

text_length : (q : ℕ) (s : List ℕ) → is_text q s ≡ true → length s ≡ q
unfolding is_text
text_length q s e = eqb-true (length s) q ((and-eq-true_iff (eqb (length s) q) (all_letters s)).0 e).0

text_all : (q : ℕ) (s : List ℕ) → is_text q s ≡ true → all_letters s ≡ true
unfolding is_text
text_all q s e = ((and-eq-true_iff (eqb (length s) q) (all_letters s)).0 e).1

length_spelled : (q : ℕ) (s : List ℕ) → is_text q s ≡ true → length (reverse (map letter_of s)) ≡ q
length_spelled q s e = length-reverse (map letter_of s) ∙ length-map s letter_of ∙ text_length q s e

-- the letters of what text spells are the text's letters in reverse
pub letters_spelled : (q : ℕ) (s : List ℕ) → is_text q s ≡ true → letters q (spelled q s) ≡ reverse (map letter_of s)
unfolding spelled
letters_spelled q s e = letters_of_string q (reverse (map letter_of s)) (length_spelled q s e)

pub spelled_lt : (q : ℕ) (s : List ℕ) → is_text q s ≡ true → spelled q s < 2 ^ (q + q)
unfolding spelled
spelled_lt q s e = string_lt q (reverse (map letter_of s)) (length_spelled q s e)

-- accepted text prints back as its capitals
capital_read : (b : ℕ) → good (read_letter b) ≡ true → capital (letter_of b) ≡ upper b
unfolding letter_of
capital_read b h = go (read_letter b) refl h
  where
    go : (a : Result Pauli Refusal) → read_letter b ≡ a → good a ≡ true → capital (the_letter a) ≡ upper b
    go (Ok l) e g = sym (read_upper b l e)
    go (Err r) e g = let z : ◌≡◌ {A = ℕ} 0 1 = cc in absurd (omega arith)

capitals_read : (s : List ℕ) → all_letters s ≡ true → map capital (map letter_of s) ≡ map upper s
unfolding all_letters
capitals_read [] h = refl
capitals_read (b ∷ s) h =
    let t = (and-eq-true_iff (good (read_letter b)) (all_letters s)).0 h in
    ap₂ (λ (a : ℕ) (m : List ℕ). a ∷ m) (capital_read b t.0) (capitals_read s t.1)

pub text_spelled : (q : ℕ) (s : List ℕ) → is_text q s ≡ true → text q (spelled q s) ≡ map upper s
unfolding text
text_spelled q s e =
    ap (λ (ls : List Pauli). map capital (reverse ls)) (letters_spelled q s e)
    ∙ ap (map capital) (reverse-reverse (map letter_of s)) ∙ capitals_read s (text_all q s e)

-- ---- the mirror

all_append : (s t : List ℕ) → all_letters (s ++ t) ≡ (all_letters s && all_letters t)
unfolding all_letters
all_append [] t = refl
all_append (b ∷ s) t = ap (λ (c : Bool). good (read_letter b) && c) (all_append s t) ∙ sym (and_assoc (good (read_letter b)) (all_letters s) (all_letters t))

pub all_snoc : (s : List ℕ) (b : ℕ) → all_letters (s ++ (b ∷ [])) ≡ (all_letters s && good (read_letter b))
unfolding all_letters
all_snoc s b = all_append s (b ∷ []) ∙ ap (λ (c : Bool). all_letters s && c) (and-true (good (read_letter b)))

all_reverse : (s : List ℕ) → all_letters (reverse s) ≡ all_letters s
unfolding all_letters
all_reverse [] = refl
all_reverse (b ∷ s) =
    ap all_letters (reverse-cons b s) ∙ all_snoc (reverse s) b
    ∙ ap (λ (c : Bool). c && good (read_letter b)) (all_reverse s) ∙ and_comm (all_letters s) (good (read_letter b))

-- text stays text in the mirror
pub mirror_text : (q : ℕ) (s : List ℕ) → is_text q (reverse s) ≡ is_text q s
unfolding is_text
mirror_text q s = ap₂ (λ (n : ℕ) (b : Bool). eqb n q && b) (length-reverse s) (all_reverse s)

-- and spells the letters in reverse order
mirror_plain : (q : ℕ) (s : List ℕ) → spelled q (reverse s) ≡ string_of q (map letter_of s)
unfolding spelled
mirror_plain q s = ap (λ (ls : List Pauli). string_of q (reverse ls)) (map-reverse_aux letter_of s []) ∙ ap (string_of q) (reverse-reverse (map letter_of s))

pub mirror_spells : (q : ℕ) (s : List ℕ) → is_text q s ≡ true → spelled q (reverse s) ≡ string_of q (reverse (letters q (spelled q s)))
mirror_spells q s e =
    mirror_plain q s
    ∙ sym (ap (λ (ls : List Pauli). string_of q (reverse ls)) (letters_spelled q s e) ∙ ap (string_of q) (reverse-reverse (map letter_of s)))

-- the mirrored letters of p are the string p exactly when they are a palindrome
pub palindrome : (q p : ℕ) → p < 2 ^ (q + q) → (string_of q (reverse (letters q p)) ≡ p) ↔ (reverse (letters q p) ≡ letters q p)
palindrome q p h = (
  λ e. sym (letters_of_string q (reverse (letters q p)) (length-reverse (letters q p) ∙ length_letters q p)) ∙ ap (letters q) e,
  λ e. ap (string_of q) e ∙ string_of_letters q p h,
)

-- ---- what `from_text` answers

pub read_good : (q : ℕ) (s : List ℕ) → is_text q s ≡ true → read_text q s ≡ string (spelled q s)
read_good q s e = ap (λ (b : Bool). cond b (string (spelled q s)) (Err NotLetters)) e

pub read_bad : (q : ℕ) (s : List ℕ) → is_text q s ≡ false → read_text q s ≡ Err NotLetters
read_bad q s e = ap (λ (b : Bool). cond b (string (spelled q s)) (Err NotLetters)) e

pub string_inj : (m n : ℕ) → string m ≡ string n → m ≡ n
string_inj m n e =
    let r : ◌≡◌ {A = PauliString} (record { 0 = m }) (record { 0 = n }) = cc in
    ap (λ (x : PauliString). x.0) r

-- no string is the refusal
not_refused : (n : ℕ) → string n ≡ Err NotLetters → ⊥
not_refused n e = let z : ◌≡◌ {A = ℕ} 0 1 = cc in omega arith

-- what is read as p is text that spells p
pub read_as : (q : ℕ) (s : List ℕ) (p : ℕ) → read_text q s ≡ string p → (is_text q s ≡ true) × (spelled q s ≡ p)
read_as q s p e = go (is_text q s) refl
  where
    go : (b : Bool) → is_text q s ≡ b → (is_text q s ≡ true) × (spelled q s ≡ p)
    go true t = (t, string_inj (spelled q s) p (sym (read_good q s t) ∙ e))
    go false t = absurd (not_refused p (sym e ∙ read_bad q s t))

-- and what is refused is no text
pub refused_as : (q : ℕ) (s : List ℕ) → read_text q s ≡ Err NotLetters → is_text q s ≡ false
refused_as q s e = go (is_text q s) refl
  where
    go : (b : Bool) → is_text q s ≡ b → is_text q s ≡ false
    go true t = absurd (not_refused (spelled q s) (sym (read_good q s t) ∙ e))
    go false t = t

-- ---- the loop that reads text: the letters of the first i bytes of s stand in reverse at the end of the array ls

pub record Reading (n : ℕ) (s : List ℕ) (ls : List Pauli) (i : ℕ) : Type 0 where
  pub within : i ≤ n
  pub size : length s ≡ n
  pub room : length ls ≡ n
  pub so_far : drop (n - i) ls ≡ reverse (map letter_of (take i s))
  pub all_good : all_letters (take i s) ≡ true

pub reading_none : (n : ℕ) (s : List ℕ) (ls : List Pauli) → length s ≡ n → length ls ≡ n → Reading n s ls 0
unfolding all_letters
reading_none n s ls hs hl =
    let z : n - 0 ≡ length ls = omega arith in
    record { within = omega arith; size = hs; room = hl; so_far = ap (λ (k : ℕ). drop k ls) z ∙ drop-length ls; all_good = refl }

pub reading_more : (n : ℕ) (s : List ℕ) (ls : List Pauli) (i : ℕ) (l : Pauli) → Reading n s ls i → i < n → read_letter (get_or s i 0) ≡ Ok l
    → Reading n s (set ls (n - 1 - i) l) (i + 1)
unfolding letter_of
reading_more n s ls i l r h e =
    let hs : length s ≡ n = r.size in
    let hl : length ls ≡ n = r.room in
    let at : n - (i + 1) ≡ n - 1 - i = omega arith in
    let next : suc (n - 1 - i) ≡ n - i = omega arith in
    let front : take (i + 1) s ≡ take i s ++ (get_or s i 0 ∷ []) = ap (λ (k : ℕ). take k s) (add-one i) ∙ take-suc s i 0 (omega arith) in
    record {
      within = omega arith;
      size = hs;
      room = length-set ls (n - 1 - i) l ∙ hl;
      so_far =
          ap (λ (k : ℕ). drop k (set ls (n - 1 - i) l)) at ∙ drop_set I ls (n - 1 - i) l (omega arith)
          ∙ ap (λ (k : ℕ). l ∷ drop k ls) next
          ∙ ap₂ (λ (a : Pauli) (m : List Pauli). a ∷ m) (sym (ap the_letter e)) r.so_far
          ∙ sym
          (ap (λ (m : List ℕ). reverse (map letter_of m)) front
          ∙ ap reverse (map-append letter_of (take i s) (get_or s i 0 ∷ []))
          ∙ reverse-append (map letter_of (take i s)) (letter_of (get_or s i 0) ∷ []));
      all_good =
          ap all_letters front ∙ all_snoc (take i s) (get_or s i 0)
          ∙ ap₂ (λ (a : Bool) (b : Result Pauli Refusal). a && good b) r.all_good e;
    }

pub reading_done : (n : ℕ) (s : List ℕ) (ls : List Pauli) (i : ℕ) → Reading n s ls i → n ≤ i → (is_text n s ≡ true) × (string_of n ls ≡ spelled n s)
unfolding spelled
reading_done n s ls i r h =
    let hs : length s ≡ n = r.size in
    let w : i ≤ n = r.within in
    let all : take i s ≡ s = take_all i s (omega arith) in
    let z : n - i ≡ 0 = omega arith in (
      text_good n s hs (ap all_letters (sym all) ∙ r.all_good),
      ap (string_of n) (ap (λ (k : ℕ). drop k ls) (sym z) ∙ r.so_far ∙ ap (λ (m : List ℕ). reverse (map letter_of m)) all),
    )

-- and what ends it early
pub text_short : (q : ℕ) (s : List ℕ) → (length s ≡ q → ⊥) → is_text q s ≡ false
unfolding is_text
text_short q s h = ap (λ (b : Bool). b && all_letters s) (ne_eqb (length s) q h)

all_bad : (s : List ℕ) (i : ℕ) → i < length s → good (read_letter (get_or s i 0)) ≡ false → all_letters s ≡ false
unfolding all_letters
all_bad [] i h e = absurd (not-suc-le-zero h)
all_bad (a ∷ s) zero h e = ap (λ (b : Bool). b && all_letters s) e
all_bad (a ∷ s) (suc i) h e = ap (λ (b : Bool). good (read_letter a) && b) (all_bad s i (le_of_suc-le-suc h) e) ∙ and-false (good (read_letter a))

pub text_bad : (q : ℕ) (s : List ℕ) (i : ℕ) → i < length s → good (read_letter (get_or s i 0)) ≡ false → is_text q s ≡ false
unfolding is_text
text_bad q s i h e = ap (λ (b : Bool). eqb (length s) q && b) (all_bad s i h e) ∙ and-false (eqb (length s) q)
