-- Answers as flat structs, and that each tells the same as the Result. Assumes nothing.
use Rattle.std.specs.Prelude.{cond, ◌≡◌, refl, Bool, List, [], ◌∷◌, ℕ, ltb, length, Result, Ok, Err, Option, Some, None}
use Rattle.std.proofs.Common.{sym, ap, ◌∙◌}
use Rattle.bicycle_common.specs.declared.Pauli.{Pauli}
use Rattle.bicycle_common.specs.declared.Pauli.TheVariants.{I, X, Z, Y}
use Rattle.bicycle_common.specs.declared.Refusal.{Refusal}
use Rattle.bicycle_common.specs.declared.AutomorphismData.{AutomorphismData}
use Rattle.bicycle_common.specs.Refusals.{Told, number_of, needed_of, told}
use Rattle.bicycle_common.specs.Letters.{flag, capital, anticommuting_letters, told_letter}
use Rattle.bicycle_common.specs.Automorphisms.{component, inverse, generators}
use Rattle.text.specs.Fronts.{length_in, front_in, told_write}
use Rattle.pauli_string.specs.declared.PauliString.{PauliString}
use Rattle.pauli_string.specs.Answers.{told_bool, told_string}
use Rattle.native_measurement.specs.Natives.{natives}
use Rattle.table.specs.Answers.{told_number}
use Rattle.builder.specs.declared.Built.{Built}
use Rattle.builder.specs.Answers.{After, told_build}
use Rattle.table_check.specs.Answers.{told_check, Checked}
use Rattle.table_check.proofs.Answers.{checked_one}
use Rattle.lookup.specs.declared.MeasurementImpl.{MeasurementImpl}
use Rattle.lookup.specs.Answers.{Lookup, Leaves, told_lookup}
use Rattle.bicycle.specs.declared.BuildResult.{BuildResult}
use Rattle.bicycle.specs.declared.CheckResult.{CheckResult}
use Rattle.bicycle.specs.declared.LookupResult.{LookupResult}
use Rattle.bicycle.specs.declared.ValueResult.{ValueResult}
use Rattle.bicycle.specs.declared.TextResult.{TextResult}
use Rattle.bicycle.specs.declared.LetterResult.{LetterResult}
use Rattle.bicycle.specs.declared.AutomorphismResult.{AutomorphismResult}

-- a struct with the number n and the values vs says what a caller is told
abbrev pub Says : ℕ → List ℕ → Told → Type 0
Says n vs t = (n ≡ t.number) × (vs ≡ t.values)

-- ---- the build

-- the refusal of number n carries zeros
abbrev pub build_refusal : ℕ → BuildResult
build_refusal n = record { number = n; entries = 0; depth = 0 }

abbrev pub flat_build : Result Built Refusal → BuildResult
flat_build (Ok b) = record { number = 0; entries = b.entries; depth = b.depth }
flat_build (Err r) = build_refusal (number_of r)

-- the struct says what the answer does
pub build_says : (a : Result Built Refusal) → Says (flat_build a).number ((flat_build a).entries ∷ (flat_build a).depth ∷ []) (told_build a)
build_says (Ok b) = (refl, refl)
build_says (Err r) = (refl, refl)

-- r is the answer of an after, and t and u are the buffers that it leaves
pub record BuildTells (r : BuildResult) (t u : List ℕ) (o : After) : Type 0 where
  pub answer : r ≡ flat_build o.answer
  pub table : t ≡ o.table
  pub queue : u ≡ o.queue

-- ---- the table check

-- the refusal of number n carries zeros
abbrev pub check_refusal : ℕ → CheckResult
check_refusal n = record { number = n; accepted = 0; index = 0 }

abbrev pub flat_check : Result (Option PauliString) Refusal → CheckResult
flat_check (Ok None) = record { number = 0; accepted = 1; index = 0 }
flat_check (Ok (Some p)) = record { number = 0; accepted = 0; index = p.0 }
flat_check (Err r) = check_refusal (number_of r)

-- the struct says what the answer does
pub check_says : (a : Result (Option PauliString) Refusal) → Says (flat_check a).number ((flat_check a).accepted ∷ (flat_check a).index ∷ []) (told_check a)
check_says (Ok None) = (refl, refl)
check_says (Ok (Some p)) = (refl, refl)
check_says (Err r) = (refl, refl)

-- r is an answer that the check may give, of which `permits` says which those are
pub record CheckTells (permits : Result (Option PauliString) Refusal → Type 0) (r : CheckResult) : Type 0 where
  pub answer : Result (Option PauliString) Refusal
  pub permitted : permits answer
  pub flat : r ≡ flat_check answer

-- two answers of `bicycle_check` that its contract permits are the same
pub check_one : (q s : ℕ) (t mx my : List ℕ) (r r' : CheckResult) → CheckTells (Checked q s t mx my) r → CheckTells (Checked q s t mx my) r' → r ≡ r'
check_one q s t mx my r r' a b =
    a.flat ∙ ap flat_check (checked_one q s t mx my a.answer b.answer a.permitted b.permitted) ∙ sym b.flat

-- ---- the lookups

-- the refusal of number n carries zeros, and the length needed, k
abbrev pub lookup_refusal : ℕ → ℕ → LookupResult
lookup_refusal k n = record { needed = k; number = n; measures = 0; native = 0; base = 0; rotations = 0 }

abbrev pub flat_lookup : Result MeasurementImpl Refusal → LookupResult
flat_lookup (Ok m) = record { needed = 0; number = 0; measures = m.measures.0; native = m.base.native.0; base = m.base.measures.0; rotations = m.rotations }
flat_lookup (Err r) = lookup_refusal (needed_of r) (number_of r)

-- the struct says what the answer does, the length needed too
pub lookup_says : (a : Result MeasurementImpl Refusal) → Says (flat_lookup a).number ((flat_lookup a).measures ∷ (flat_lookup a).native ∷ (flat_lookup a).base ∷ (flat_lookup a).rotations ∷ []) (told_lookup a) × ((flat_lookup a).needed ≡ (told_lookup a).needed)
lookup_says (Ok m) = ((refl, refl), refl)
lookup_says (Err r) = ((refl, refl), refl)

-- r is the answer of a lookup, and the buffer is left as the lookup leaves it
pub record LookupTells (o : Lookup) (before : List ℕ) (r : LookupResult) (after : List ℕ) : Type 0 where
  pub answer : r ≡ flat_lookup o.answer
  pub leaves : Leaves o before o.answer after

-- ---- one value

-- the refusal of number n carries a zero
abbrev pub value_refusal : ℕ → ValueResult
value_refusal n = record { number = n; value = 0 }

abbrev pub value_is : ℕ → ValueResult
value_is v = record { number = 0; value = v }

-- an answer whose value is passed on as the number v
abbrev pub flat_value : {A : Type 0} → (A → ℕ) → Result A Refusal → ValueResult
flat_value v (Ok a) = value_is (v a)
flat_value v (Err r) = value_refusal (number_of r)

abbrev pub flat_bool : Result Bool Refusal → ValueResult
flat_bool = flat_value flag

abbrev pub flat_string : Result PauliString Refusal → ValueResult
flat_string = flat_value (λ (p : PauliString). p.0)

abbrev pub flat_number : Result ℕ Refusal → ValueResult
flat_number = flat_value (λ (n : ℕ). n)

-- the struct says what the answer does
value_says : {A : Type 0} (v : A → ℕ) (a : Result A Refusal) → Says (flat_value v a).number ((flat_value v a).value ∷ []) (told 1 (λ (x : A). v x ∷ []) a)
value_says v (Ok x) = (refl, refl)
value_says v (Err r) = (refl, refl)

pub bool_says : (a : Result Bool Refusal) → Says (flat_bool a).number ((flat_bool a).value ∷ []) (told_bool a)
bool_says = value_says flag

pub string_says : (a : Result PauliString Refusal) → Says (flat_string a).number ((flat_string a).value ∷ []) (told_string a)
string_says = value_says (λ (p : PauliString). p.0)

pub number_says : (a : Result ℕ Refusal) → Says (flat_number a).number ((flat_number a).value ∷ []) (told_number a)
number_says = value_says (λ (n : ℕ). n)

-- a native's number as it is passed on: one that is none stands for the first that is none
abbrev pub narrow : ℕ → ℕ
narrow n = cond (ltb n natives) n natives

-- ---- text in a lent buffer

-- the refusal of number n carries a zero, and the length needed, k
abbrev pub text_refusal : ℕ → ℕ → TextResult
text_refusal k n = record { needed = k; length = 0; number = n }

abbrev pub flat_write : Result ℕ Refusal → TextResult
flat_write (Ok n) = record { needed = 0; length = n; number = 0 }
flat_write (Err r) = text_refusal (needed_of r) (number_of r)

-- the struct says what the answer does, the length needed too
pub text_says : (a : Result ℕ Refusal) → Says (flat_write a).number ((flat_write a).length ∷ []) (told_write a) × ((flat_write a).needed ≡ (told_write a).needed)
text_says (Ok n) = ((refl, refl), refl)
text_says (Err r) = ((refl, refl), refl)

-- r is the answer where the text t, or its refusal, is written to a buffer, and the buffer is left so
pub record TextTells (t : Result (List ℕ) Refusal) (before : List ℕ) (r : TextResult) (after : List ℕ) : Type 0 where
  pub answer : r ≡ flat_write (length_in (length before) t)
  pub buffer : after ≡ front_in before t

-- ---- letters

-- the refusal of number n carries zeros
abbrev pub letter_refusal : ℕ → LetterResult
letter_refusal n = record { number = n; letter = 0; first = 0; second = 0 }

-- the capital c, and those of the letters that anticommute
abbrev pub capitals : ℕ → Option (Pauli × Pauli) → LetterResult
capitals c (Some (p0, p1)) = record { number = 0; letter = c; first = capital p0; second = capital p1 }
capitals c None = record { number = 0; letter = c; first = 0; second = 0 }

abbrev pub of_letter : Pauli → LetterResult
of_letter l = capitals (capital l) (anticommuting_letters l)

abbrev pub flat_letter : Result Pauli Refusal → LetterResult
flat_letter (Ok l) = of_letter l
flat_letter (Err r) = letter_refusal (number_of r)

-- the struct says the answer's number; its values are capitals, where the answer tells the letter's place
pub letter_says : (a : Result Pauli Refusal) → (flat_letter a).number ≡ (told_letter a).number
letter_says (Ok I) = refl
letter_says (Ok X) = refl
letter_says (Ok Z) = refl
letter_says (Ok Y) = refl
letter_says (Err r) = refl

-- ---- automorphisms

abbrev pub flat_automorphism : AutomorphismData → AutomorphismResult
flat_automorphism a = record {
  generators = generators (component a.x) (component a.y);
  x = component a.x;
  y = component a.y;
  inverse_x = component (inverse a).x;
  inverse_y = component (inverse a).y;
}
