-- The refusals by document 01's numbers, and what a caller is told by an answer. Assumes nothing.
use Rattle.std.specs.Prelude.{List, ℕ, replicate, Result, Ok, Err}
use Rattle.bicycle_common.specs.declared.Refusal.{Refusal}
use Rattle.bicycle_common.specs.declared.Refusal.TheVariants.{TableLength, QueueLength, Matrix, StringRange, Identity, PivotSet, NoEntry, BadEntry, Room, PivotIdentity, NativeRange, PlanInput, NotLetters, QubitRange}

-- the first column of the table "Numbers a caller sees"
abbrev pub number_of : Refusal → ℕ
number_of TableLength = 1
number_of QueueLength = 2
number_of Matrix = 3
number_of StringRange = 4
number_of Identity = 5
number_of PivotSet = 6
number_of NoEntry = 7
number_of BadEntry = 8
number_of (Room n) = 9
number_of PivotIdentity = 10
number_of NativeRange = 11
number_of PlanInput = 12
number_of NotLetters = 13
number_of QubitRange = 14

-- 9 carries the length needed, the others carry 0
abbrev pub needed_of : Refusal → ℕ
needed_of TableLength = 0
needed_of QueueLength = 0
needed_of Matrix = 0
needed_of StringRange = 0
needed_of Identity = 0
needed_of PivotSet = 0
needed_of NoEntry = 0
needed_of BadEntry = 0
needed_of (Room n) = n
needed_of PivotIdentity = 0
needed_of NativeRange = 0
needed_of PlanInput = 0
needed_of NotLetters = 0
needed_of QubitRange = 0

-- ---- what a caller is told

-- What a caller is told by any answer: document 01's number, 0 where nothing is refused; the length needed, with 9; and the
-- answer's values, all zeros on a refusal.
pub record Told : Type 0 where
  pub number : ℕ
  pub needed : ℕ
  pub values : List ℕ

abbrev pub answered : List ℕ → Told
answered vs = record { number = 0; needed = 0; values = vs }

-- the refusal r of a call that answers k values
abbrev pub refused : ℕ → Refusal → Told
refused k r = record { number = number_of r; needed = needed_of r; values = replicate k 0 }

-- an answer of k values, which v lists
abbrev pub told : {A : Type 0} → ℕ → (A → List ℕ) → Result A Refusal → Told
told k v (Ok a) = answered (v a)
told k v (Err r) = refused k r
