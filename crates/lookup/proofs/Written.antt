-- What a lookup writes is counted by its answer and has room in the buffer, so that the front of the buffer is what was written. Assumes
-- nothing.
use Rattle.std.specs.Prelude.{Result, Ok, Err, MatchResult}
use mathlib.Core.Path.{◌≡◌, refl, sym, ap, ◌∙◌}
use mathlib.Core.Bool.{Bool}
use mathlib.Core.List.{List, [], ◌∷◌}
use Prim.Native.Nat.{ℕ, ◌+◌, ◌*◌, ◌≤◌}
use native.Mathlib.Omega.{arith}
use lib.ListN.{length, take, drop}
use lib.Seq.{sets-eq, take_at}
use Rattle.bicycle_common.specs.declared.Refusal.{Refusal}
use Rattle.bicycle_common.proofs.Ranges.{length_from}
use Rattle.measurement.specs.Measures.{pair_string}
use Rattle.table.specs.Bytes.{entry}
use Rattle.table.specs.Entries.{depth}
use Rattle.lookup.specs.declared.MeasurementImpl.{MeasurementImpl}
use Rattle.lookup.specs.Walks.{rotation_at, winner}
use Rattle.lookup.specs.Answers.{two_bytes, Lookup, Leaves, looked_up}
use Rattle.lookup.proofs.Cases.{sought_case, looked_up_case}

-- how many rotations an answer counts: none where it is a refusal
abbrev pub count : Result MeasurementImpl Refusal → ℕ
count (Ok i) = i.rotations
count (Err r) = 0

-- what is written is counted by the answer, with room for two bytes each
abbrev pub Counted : ℕ → Lookup → Type 0
Counted room o = (count o.answer ≡ length o.written) × (2 * length o.written ≤ room)

pub counted : (any : Bool) (q s : ℕ) (t mx my : List ℕ) (p room : ℕ) → Counted room (looked_up any q s t mx my p room)
counted any q s t mx my p room =
    let f = pair_string s mx my in
    let w = winner any q (entry t) p in
    let l = length_from (rotation_at q f (entry t) w) 0 (depth (entry t w)) in
    looked_up_case (Counted room) (λ r. (refl, omega arith)) any q s t mx my p room
    (sought_case (Counted room) (λ r. (refl, omega arith)) q f (entry t) any p room (λ g h. (sym l, omega (arith, l))))

-- ---- the front

two_bytes_length : (ns : List ℕ) → length (two_bytes ns) ≡ 2 * length ns
unfolding two_bytes
two_bytes_length [] = refl
two_bytes_length (n ∷ ns) = omega (arith, two_bytes_length ns)

-- what an answer gives by its count, or else 0
pub twice_count : (a : Result MeasurementImpl Refusal) (k : ℕ) → MatchResult a (λ i. k ≡ 2 * i.rotations) (λ _. k ≡ 0) → k ≡ 2 * count a
twice_count (Ok i) k h = h
twice_count (Err r) k h = h

-- the front with two bytes for each rotation that is counted is what was written
module _ (o : Lookup) (l : List ℕ) (h : Counted (length l) o) (a : Result MeasurementImpl Refusal) (m : List ℕ) (w : Leaves o l a m) (k : ℕ) (z : k ≡ 2 * count a) where
  long : length (two_bytes o.written) ≡ k
  long = omega (arith, two_bytes_length o.written, h.0, z, ap count w.answer)

  pub front_is : take k m ≡ two_bytes o.written
  front_is =
      let b = two_bytes o.written in
      let fits : 0 + length b ≤ length l = omega (arith, two_bytes_length o.written, h.1) in
      ap (take k) (w.buffer ∙ sets-eq b l 0 fits) ∙ take_at b (drop (0 + length b) l) k long

  pub front_fits : k ≡ length (take k m)
  front_fits = sym (ap (λ (x : List ℕ). length x) front_is ∙ long)
