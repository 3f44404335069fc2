-- The order of work in a turn: of the packed rotations only those that move the string are tried. Assumes nothing.
use Rattle.std.specs.Prelude.{List, ℕ}
use Rattle.pauli_string.specs.Strings.{rotate}
use Rattle.natives.specs.Arrays.{at}
use Rattle.discovery.specs.Model.{State}
use Rattle.discovery.specs.Tried.{tried}

-- discoveries in turn of strings and numbers in arrays
abbrev pub listed_tried : List ℕ → List ℕ → ℕ → ℕ → State → State
listed_tried xs ns d j s = tried (at xs) (at ns) d j s

-- of what p is led to by the strings in rs
abbrev pub packed_tried : ℕ → List ℕ → List ℕ → ℕ → ℕ → ℕ → State → State
packed_tried q rs ns p d i s = tried (λ (k : ℕ). rotate q p (at rs k)) (at ns) d i s
