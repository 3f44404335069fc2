-- What the parts of the check decide. f n is the string of native n, e p the value at index p, over q qubits. Assumes nothing.
use Rattle.std.specs.Prelude.{cond, List, ◌≡◌, ℕ, ◌+◌, ◌-◌, ◌^◌, ◌≤◌, ◌<◌, eqb}
use Rattle.pauli_string.specs.Strings.{blank, conj}
use Rattle.native_measurement.specs.Natives.{natives}
use Rattle.natives.specs.Arrays.{at}
use Rattle.shortest.specs.Graphs.{Has}
use Rattle.table.specs.Entries.{depth, KeptFor, Rotation, leads}
use Rattle.table.specs.Rules.{Down, Rule}

-- ---- what is read

-- The first m of ns are rotations, none is missing, and the first m of rs are their strings, blanked. That none is missing names no place of
-- it, so that there is one proof at most, as a ghost field wants it.
pub record Follows (q : ℕ) (f : ℕ → ℕ) (rs ns : List ℕ) (m : ℕ) : Type 0 where
  pub each : (i : ℕ) → i < m → Rotation q f (at ns i)
  pub all : (n : ℕ) → Rotation q f n → ((i : ℕ) → i < m → at ns i ≡ n → ⊥) → ⊥
  pub strings : (i : ℕ) → i < m → at rs i ≡ blank q (f (at ns i))

-- ---- heights

-- two above the greatest depth of a value, which has four bytes
abbrev pub gap : ℕ
gap = 4194305

-- How high a string of the value v stands: its depth, or, without an entry, above every depth. So a rotation that leads two or more down
-- breaks the rule of the string it leads from, whatever the two values are.
unfoldable pub height : ℕ → ℕ
height v = cond (eqb v 0) gap (depth v)

-- ---- where rotations lead

-- the first m of xs are p, conjugated with each of the first m of rs
abbrev pub Neighbours : ℕ → ℕ → List ℕ → ℕ → List ℕ → Type 0
Neighbours q p rs m xs = (i : ℕ) → i < m → at xs i ≡ conj q p (at rs i)

-- w is an entry, and no more than the limit
pub record Low (limit w : ℕ) : Type 0 where
  pub some : w ≡ 0 → ⊥
  pub low : w ≤ limit

-- no rotation leads from p two or more below h
abbrev pub Calm : ℕ → (ℕ → ℕ) → (ℕ → ℕ) → ℕ → ℕ → Type 0
Calm q f e p h = (n : ℕ) → Rotation q f n → height (e (leads q f p n)) + 2 ≤ h → ⊥

-- ---- natives

-- v - 1 is a native, and p its string
pub record Measured (f : ℕ → ℕ) (p v : ℕ) : Type 0 where
  pub below : v - 1 < natives
  pub measures : f (v - 1) ≡ p

-- an entry of depth 0 names the native of string p, another a rotation that leads one step down
pub record Rooted (q : ℕ) (f e : ℕ → ℕ) (p : ℕ) : Type 0 where
  pub base : Has e p → e p < 1024 → Measured f p (e p)
  pub made : 1024 ≤ e p → (n : ℕ) × Down q f e p n

-- if p is a native string, its value is that of depth 0 and the kept number
abbrev pub Right : (ℕ → ℕ) → (ℕ → ℕ) → ℕ → Type 0
Right f e p = (n : ℕ) → KeptFor f p n → e p ≡ n + 1

-- native n is kept for the nonzero string p, whose value is not that
pub record Wrong (f e : ℕ → ℕ) (n p : ℕ) : Type 0 where
  pub keeps : KeptFor f p n
  pub some : p ≡ 0 → ⊥
  pub value : e p ≡ n + 1 → ⊥

-- ---- from both ends

-- what is tested at index p itself: the rotations are followed where it stands above top
pub record Tested (q : ℕ) (f e : ℕ → ℕ) (top p : ℕ) : Type 0 where
  pub rooted : Rooted q f e p
  pub steady : top < height (e p) → Calm q f e p (height (e p))

-- every nonzero index below r passes, and has its right value where it is a native's; r, where it is an index, breaks its rule
pub record Scanned (q : ℕ) (f e : ℕ → ℕ) (top r : ℕ) : Type 0 where
  pub within : r ≤ 4 ^ q
  pub right : (p : ℕ) → (p ≡ 0 → ⊥) → p < r → Right f e p
  pub tested : (p : ℕ) → (p ≡ 0 → ⊥) → p < r → Tested q f e top p
  pub breaks : r < 4 ^ q → Rule q f e r → ⊥

-- r is the lowest number below end of which M holds, or end where there is none
pub record Least (M : ℕ → Type 0) (end r : ℕ) : Type 0 where
  pub within : r ≤ end
  pub found : r < end → M r
  pub clear : (p : ℕ) → p < r → M p → ⊥

-- N holds of p by a number below k
pub record By (N : ℕ → ℕ → Type 0) (k p : ℕ) : Type 0 where
  pub by : ℕ
  pub below : by < k
  pub holds : N by p

-- p is one of the first m of xs, and stands two or more above h
abbrev pub High : (ℕ → ℕ) → ℕ → List ℕ → ℕ → ℕ → Type 0
High e h xs = By (λ (i p : ℕ). (at xs i ≡ p) × (h + 2 ≤ height (e p)))

-- a rotation leads from x two or more up to p, and x is so low that such a string need not stand above top
pub record Blames (q : ℕ) (f e : ℕ → ℕ) (top x p : ℕ) : Type 0 where
  pub low : height (e x) + 2 ≤ top
  pub native : ℕ
  pub rotation : Rotation q f native
  pub is : leads q f x native ≡ p
  pub high : height (e x) + 2 ≤ height (e p)

-- one does so from a nonzero string below k
abbrev pub Blamed : ℕ → (ℕ → ℕ) → (ℕ → ℕ) → ℕ → ℕ → ℕ → Type 0
Blamed q f e top = By (λ (x p : ℕ). (x ≡ 0 → ⊥) × Blames q f e top x p)

-- ---- all indices

-- every index below r meets its rule, and r, where it is an index, breaks it
pub record Stops (q : ℕ) (f e : ℕ → ℕ) (r : ℕ) : Type 0 where
  pub within : r ≤ 4 ^ q
  pub meets : (p : ℕ) → p < r → Rule q f e p
  pub breaks : r < 4 ^ q → Rule q f e r → ⊥
