-- What `check` answers: 1 for bytes that are no table of the strings of q letters, 3 for a pair that is none; else that every index meets its
-- rule, or the lowest index that breaks it. The lowest number that applies is given. Assumes nothing.
use Rattle.std.specs.Prelude.{List, [], ◌∷◌, ◌≡◌, ℕ, ◌^◌, ◌<◌, Option, Some, None, Result, Ok, Err}
use Rattle.bicycle_common.specs.declared.Refusal.{Refusal}
use Rattle.bicycle_common.specs.Refusals.{Told, told}
use Rattle.pauli_string.specs.declared.PauliString.{PauliString}
use Rattle.measurement.specs.Measures.{pair_string}
use Rattle.table.specs.Answers.{given}
use Rattle.table.specs.Bytes.{entry}
use Rattle.table.specs.Rules.{Rule}

-- whether the table is accepted, and the index that breaks its rule
abbrev pub verdict : Option PauliString → List ℕ
verdict None = 1 ∷ 0 ∷ []
verdict (Some p) = 0 ∷ p.0 ∷ []

abbrev pub told_check : Result (Option PauliString) Refusal → Told
told_check = told 2 verdict

-- of a table t and matrices of side s, all as bytes: index p meets its rule
abbrev pub Meets : ℕ → ℕ → List ℕ → List ℕ → List ℕ → ℕ → Type 0
Meets q s t mx my p = Rule q (pair_string s mx my) (entry t) p

-- every index does
pub record Passes (q s : ℕ) (t mx my : List ℕ) : Type 0 where
  pub done : given q s t mx my ≡ Ok tt
  pub every : (p : ℕ) → p < 4 ^ q → Meets q s t mx my p

-- i is the lowest index that does not
pub record Fails (q s : ℕ) (t mx my : List ℕ) (i : ℕ) : Type 0 where
  pub done : given q s t mx my ≡ Ok tt
  pub index : i < 4 ^ q
  pub breaks : Meets q s t mx my i → ⊥
  pub lowest : (p : ℕ) → p < i → Meets q s t mx my p

-- the answer is right
abbrev pub Checked : ℕ → ℕ → List ℕ → List ℕ → List ℕ → Result (Option PauliString) Refusal → Type 0
Checked q s t mx my (Ok None) = Passes q s t mx my
Checked q s t mx my (Ok (Some p)) = Fails q s t mx my p.0
Checked q s t mx my (Err r) = given q s t mx my ≡ Err r
