-- What a caller is to get of a text: the value, or a refusal. Assumes nothing.
use Rattle.std.specs.Prelude.{Result, Ok, Err}
use Rattle.bicycle_common.specs.declared.Refusal.{Refusal}

-- one thing is read after another: the first refusal decides
abbrev pub on : {A B : Type 0} → Result A Refusal → (A → Result B Refusal) → Result B Refusal
on (Ok a) next = next a
on (Err r) next = Err r
