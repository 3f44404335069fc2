-- What an answered plan means. Assumes nothing.
use Rattle.bicycle_common.specs.declared.Refusal.{Refusal}
use Rattle.std.specs.Prelude.{Result, Ok, Err, List, ◌≡◌, ℕ, length}
use Rattle.table.specs.Entries.{KeptFor, Rotation}
use Rattle.table.specs.Plans.{applied, All}
use Rattle.lookup.specs.declared.MeasurementImpl.{MeasurementImpl}
use Rattle.lookup.specs.Answers.{Lookup}

-- The plan m with the rotations ns implements string p: a kept native and kept natives with pivot support, which, their pivots blanked,
-- applied in order to its string, give p.
pub record Implements (q : ℕ) (f : ℕ → ℕ) (m : MeasurementImpl) (ns : List ℕ) (p : ℕ) : Type 0 where
  pub measures : m.measures.0 ≡ p
  pub base_kept : KeptFor f m.base.measures.0 m.base.native.0
  pub counted : m.rotations ≡ length ns
  pub turns : All (Rotation q f) ns
  pub gives : applied q f m.base.measures.0 ns ≡ p

-- an answered plan with the rotations ns implements p; a refusal claims nothing
abbrev pub AnswersTruly : ℕ → (ℕ → ℕ) → ℕ → List ℕ → Result MeasurementImpl Refusal → Type 0
AnswersTruly q f p ns (Ok m) = Implements q f m ns p
AnswersTruly q f p ns (Err r) = Unit {0}

-- whatever is answered and written implements p
abbrev pub Truly : ℕ → (ℕ → ℕ) → ℕ → Lookup → Type 0
Truly q f p o = AnswersTruly q f p o.written o.answer
