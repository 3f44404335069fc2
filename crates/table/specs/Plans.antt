-- The strings as a graph, whose steps are the rotations and whose sources are the kept natives, and the table's values as its labels. A walk
-- is a plan: a kept native, then rotations in order, which together give the string at its end. Assumes nothing.
use Rattle.std.specs.Prelude.{true, List, [], ◌∷◌, ◌≡◌, ℕ, ◌^◌, ◌<◌, length}
use Rattle.pauli_string.specs.Strings.{has_pivot}
use Rattle.pauli_string.proofs.Pivot.{rotate_rotate, rotate_string, rotate_nonzero}
use Rattle.native_measurement.specs.Natives.{natives}
use Rattle.natives.specs.Kept.{kept}
use Rattle.shortest.specs.Graphs.{Graph, Labels, Walk, steps}
use Rattle.table.specs.Entries.{depth, Names, KeptFor, Rotation, leads}

-- p is a nonzero string of q letters
pub record Nonzero (q p : ℕ) : Type 0 where
  pub below : p < 4 ^ q
  pub some : p ≡ 0 → ⊥

-- native n is kept for the nonzero string p
pub record Base (q : ℕ) (f : ℕ → ℕ) (p n : ℕ) : Type 0 where
  pub string : Nonzero q p
  pub keeps : KeptFor f p n

-- Where every f n is a string, rotations lead from nonzero strings to nonzero strings, and back.
abbrev pub graph : (q : ℕ) (f : ℕ → ℕ) → ((n : ℕ) → f n < 4 ^ q) → Graph
graph q f small = record {
  In = Nonzero q;
  Step = Rotation q f;
  lead = leads q f;
  lead_in = λ p n i r. record { below = rotate_string q p (f n) i.below (small n); some = λ z. i.some (rotate_nonzero q p (f n) z) };
  back = λ p n i r. rotate_rotate q p (f n);
  Source = Base q f;
  source_in = λ p n b. b.string;
}

-- how a table's value is read
abbrev pub values : Labels
values = record { cost = depth; Names = Names }

-- a plan of k rotations for p
abbrev pub Plan : (q : ℕ) (f : ℕ → ℕ) → ((n : ℕ) → f n < 4 ^ q) → ℕ → ℕ → Type 0
Plan q f small k p = Walk (graph q f small) (steps (graph q f small)) k p

-- ---- sequences of natives

-- p led by each native of the list in turn, their pivots blanked
abbrev pub applied : ℕ → (ℕ → ℕ) → ℕ → List ℕ → ℕ
applied q f p [] = p
applied q f p (n ∷ ns) = applied q f (leads q f p n) ns

-- P holds of every number of the list
abbrev pub All : (ℕ → Type 0) → List ℕ → Type 0
All P [] = Unit {0}
All P (n ∷ ns) = P n × All P ns

-- n is the number of a native with pivot support, kept or not
abbrev pub Supported : ℕ → (ℕ → ℕ) → ℕ → Type 0
Supported q f n = (n < natives) × (has_pivot q (f n) ≡ true)

-- native b, followed by the natives of the list, each with pivot support, gives p: their pivots blanked, applied in order to its string
pub record Gives (q : ℕ) (f : ℕ → ℕ) (b : ℕ) (ns : List ℕ) (p : ℕ) : Type 0 where
  pub base_below : b < natives
  pub supported : All (Supported q f) ns
  pub gives : applied q f (f b) ns ≡ p

-- a kept native, and k rotations which applied in order to its string give p
pub record Sequence (q : ℕ) (f : ℕ → ℕ) (k p : ℕ) : Type 0 where
  pub base : ℕ
  pub base_below : base < natives
  pub base_kept : kept f base ≡ true
  pub list : List ℕ
  pub rotations : All (Rotation q f) list
  pub long : length list ≡ k
  pub gives : applied q f (f base) list ≡ p
