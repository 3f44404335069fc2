-- The walk from a string down to a native: at each place the value names the rotation that leads to the next. f n is the string of native n,
-- e p the value at index p, over q qubits. Assumes nothing.
use Rattle.std.specs.Prelude.{Bool, true, cond, ◌&&◌, List, [], ◌∷◌, ℕ, zero, suc, ◌+◌, ◌-◌, eqb, ltb}
use Rattle.bicycle_common.specs.declared.Pauli.{Pauli}
use Rattle.bicycle_common.specs.declared.Pauli.TheVariants.{X, Z, Y}
use Rattle.bicycle_common.specs.Ranges.{all_below, listed}
use Rattle.pauli_string.specs.Strings.{set_letter}
use Rattle.table.specs.Entries.{depth, named, leads, valid}

-- the value v is a valid entry for x, of depth d
abbrev pub stands : ℕ → (ℕ → ℕ) → ℕ → ℕ → ℕ → Bool
stands q f v d x = eqb (depth v) d && valid q f v x

module _ (q : ℕ) (f e : ℕ → ℕ) where
  -- the string to which the rotation named at x leads
  unfoldable pub next : ℕ → ℕ
  next x = leads q f x (named (e x))

  -- the string at place k of the walk from p
  unfoldable pub down : ℕ → ℕ → ℕ
  down p zero = p
  down p (suc k) = next (down p k)

  -- at every place of the walk from p stands a valid entry for its string, and the next depth is one less
  unfoldable pub good : ℕ → Bool
  good p = all_below (depth (e p) + 1) (λ (k : ℕ). stands q f (e (down p k)) (depth (e p) - k) (down p k))

  -- the string at its end
  abbrev pub bottom : ℕ → ℕ
  bottom p = down p (depth (e p))

  -- the native of the rotation that stands at place i when the base side comes first
  abbrev pub rotation_at : ℕ → ℕ → ℕ
  rotation_at p i = named (e (down p (depth (e p) - 1 - i)))

  -- the natives of its rotations, base side first
  abbrev pub rotations : ℕ → List ℕ
  rotations p = listed (rotation_at p) (depth (e p))

  -- p has no entry, or a good walk
  unfoldable pub sound : ℕ → Bool
  sound p = cond (eqb (e p) 0) true (good p)

-- ---- which string is looked up: p itself, or, with any letter on the pivot, the best of three candidates

-- p with a letter on the pivot
abbrev pub candidate : ℕ → ℕ → Pauli → ℕ
candidate q p l = set_letter q p 0 l

-- the three, in the order in which the first of equals wins
abbrev pub candidates : ℕ → ℕ → List ℕ
candidates q p = candidate q p X ∷ candidate q p Z ∷ candidate q p Y ∷ []

-- of two strings the one that has an entry, of both the one with fewer rotations, a where they are equal
unfoldable pub better : (ℕ → ℕ) → ℕ → ℕ → ℕ
better e a b = cond (eqb (e a) 0) b (cond (eqb (e b) 0) a (cond (ltb (depth (e b)) (depth (e a))) b a))

-- of three: fewest rotations wins, the first of equals; those without an entry are passed over
abbrev pub best : (ℕ → ℕ) → ℕ → ℕ → ℕ → ℕ
best e x z y = better e (better e x z) y

-- three candidates without an entry
abbrev pub none_has : (ℕ → ℕ) → ℕ → ℕ → ℕ → Bool
none_has e x z y = eqb (e x) 0 && eqb (e z) 0 && eqb (e y) 0

-- three candidates, of which each has no entry or a good walk
abbrev pub all_sound : ℕ → (ℕ → ℕ) → (ℕ → ℕ) → ℕ → ℕ → ℕ → Bool
all_sound q f e x z y = sound q f e x && sound q f e z && sound q f e y

-- value 0 at p; pivot-free: at all three
abbrev pub missing : Bool → ℕ → (ℕ → ℕ) → ℕ → Bool
missing any q e p = cond any (none_has e (candidate q p X) (candidate q p Z) (candidate q p Y)) (eqb (e p) 0)

-- the walk is good; pivot-free: for every candidate with a nonzero value
abbrev pub judged : Bool → ℕ → (ℕ → ℕ) → (ℕ → ℕ) → ℕ → Bool
judged any q f e p = cond any (all_sound q f e (candidate q p X) (candidate q p Z) (candidate q p Y)) (good q f e p)

-- the string that is looked up
abbrev pub winner : Bool → ℕ → (ℕ → ℕ) → ℕ → ℕ
winner any q e p = cond any (best e (candidate q p X) (candidate q p Z) (candidate q p Y)) p
