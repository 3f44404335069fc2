-- A string whose bucket is 0 has a turn that finds nothing, whatever was found since the filter was filled. Assumes nothing.
use mathlib.Core.Path.{◌≡◌, ap, ◌∙◌}
use mathlib.Core.List.{List}
use Prim.Native.Nat.{ℕ, ◌^◌, ◌<◌}
use Rattle.bicycle_common.specs.Ranges.{in_turn}
use Rattle.pauli_string.specs.Strings.{rotate}
use Rattle.natives.specs.Arrays.{at}
use Rattle.table.specs.Bytes.{entry}
use Rattle.digits.specs.Filter.{bucket, Covers}
use Rattle.digits.proofs.Filling.{covers_grows}
use Rattle.discovery.specs.Model.{State}
use Rattle.discovery.proofs.States.{tried_keeps, tried_idle}
use Rattle.search.specs.Turns.{packed_tried}

-- after the turn of a string the filter still covers
pub covers_turn : (q : ℕ) (rs ns : List ℕ) (m : ℕ) (filter : List ℕ) (p d : ℕ) (s w : State) → w ≡ in_turn m (packed_tried q rs ns p d) s
    → Covers q rs m filter s.table → Covers q rs m filter w.table
covers_turn q rs ns m filter p d s w z h =
    covers_grows q rs m filter s.table w.table h
    (λ x g. ap (λ (w : State). entry w.table x) z ∙ tried_keeps (λ (i : ℕ). rotate q p (at rs i)) (at ns) d m x s g)

-- a string whose bucket is 0 has an idle turn
pub covers_idle : (q : ℕ) (rs ns : List ℕ) (m : ℕ) (filter : List ℕ) (p d : ℕ) (s : State) → Covers q rs m filter s.table → p < 4 ^ q
    → bucket filter p ≡ 0 → in_turn m (packed_tried q rs ns p d) s ≡ s
covers_idle q rs ns m filter p d s h hp w = tried_idle (λ (i : ℕ). rotate q p (at rs i)) (at ns) d m s (λ j l z. h.sees p j hp l z w)
