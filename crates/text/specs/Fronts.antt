-- A text in the front of a lent buffer, or a refusal and nothing written. Assumes nothing.
use Rattle.std.specs.Prelude.{cond, List, [], ◌∷◌, ◌++◌, ◌≡◌, ℕ, ltb, length, drop, Result, Ok, Err}
use Rattle.bicycle_common.specs.declared.Refusal.{Refusal}
use Rattle.bicycle_common.specs.declared.Refusal.TheVariants.{Room}
use Rattle.bicycle_common.specs.Refusals.{Told, told}

-- the length of the text; 9, with the length needed, where a buffer of length room has no place for it
abbrev pub length_in : ℕ → Result (List ℕ) Refusal → Result ℕ Refusal
length_in room (Ok t) = cond (ltb room (length t)) (Err (Room (length t))) (Ok (length t))
length_in room (Err r) = Err r

-- the text in front and the rest as it was; all as it was where there is no room, or no text
abbrev pub front_in : List ℕ → Result (List ℕ) Refusal → List ℕ
front_in before (Ok t) = cond (ltb (length before) (length t)) before (t ++ drop (length t) before)
front_in before (Err r) = before

-- a text was written, or refused
pub record Written (t : Result (List ℕ) Refusal) (before : List ℕ) (r : Result ℕ Refusal) (after : List ℕ) : Type 0 where
  pub answer : r ≡ length_in (length before) t
  pub buffer : after ≡ front_in before t

-- the length
abbrev pub told_write : Result ℕ Refusal → Told
told_write = told 1 (λ (n : ℕ). n ∷ [])
