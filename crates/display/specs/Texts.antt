-- The text of an expansion, or the refusal. Assumes nothing.
use Rattle.std.specs.Prelude.{List, ℕ, Result, Ok, Err}
use Rattle.bicycle_common.specs.declared.BicycleISA.{BicycleISA}
use Rattle.bicycle_common.specs.declared.Refusal.{Refusal}
use Rattle.compile.specs.Expansions.{expansion_text}

-- the instructions of a native or of a rotation
abbrev pub displayed : Result (List BicycleISA) Refusal → Result (List ℕ) Refusal
displayed (Ok is) = Ok (expansion_text is)
displayed (Err r) = Err r
