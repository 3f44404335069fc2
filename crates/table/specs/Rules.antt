-- The rule of each index, in document 01's words. f n is the string of native n, e p the value at index p. Assumes nothing.
use Rattle.std.specs.Prelude.{◌≡◌, ℕ, ◌-◌, ◌≤◌, ◌<◌}
use Rattle.native_measurement.specs.Natives.{natives}
use Rattle.shortest.specs.Graphs.{Has}
use Rattle.table.specs.Entries.{depth, Names, identity, KeptFor, Rotation, leads}

-- p is no native string
abbrev pub NoNative : (ℕ → ℕ) → ℕ → Type 0
NoNative f p = (n : ℕ) → n < natives → f n ≡ p → ⊥

module _ (q : ℕ) (f e : ℕ → ℕ) (p : ℕ) where
  -- rotation n, which the field names, leads to an entry of depth one less
  pub record Down (n : ℕ) : Type 0 where
    pub rotation : Rotation q f n
    pub named : Names (e p) n
    pub has : Has e (leads q f p n)
    pub less : depth (e (leads q f p n)) ≡ depth (e p) - 1

  -- Another string with an entry has depth at least 1, a field n + 1 naming a rotation n that leads to an entry of depth one less, and no
  -- rotation leading to an entry of depth less than that.
  pub record Deep : Type 0 where
    pub positive : 1 ≤ depth (e p)
    pub down : (n : ℕ) × Down n
    pub no_shorter : (n : ℕ) → Rotation q f n → Has e (leads q f p n) → depth (e (leads q f p n)) < depth (e p) - 1 → ⊥

  -- A string without an entry is no native, and no rotation leads to an entry.
  pub record Without : Type 0 where
    pub no_native : NoNative f p
    pub alone : (n : ℕ) → Rotation q f n → e (leads q f p n) ≡ 0

  pub record Rule : Type 0 where
    -- index 0 is 541
    pub first : p ≡ 0 → e p ≡ identity
    -- a nonzero native string has depth 0 and its kept number
    pub native_string_law : (p ≡ 0 → ⊥) → (n : ℕ) → KeptFor f p n → (depth (e p) ≡ 0) × Names (e p) n
    -- another string with an entry
    pub other : (p ≡ 0 → ⊥) → NoNative f p → Has e p → Deep
    -- a string without an entry
    pub without : (p ≡ 0 → ⊥) → e p ≡ 0 → Without
