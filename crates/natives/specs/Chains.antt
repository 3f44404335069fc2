-- How equal strings are found. Chains of natives whose strings fall into one bucket: each native's next is the least greater one, or 540 at
-- the end. Assumes nothing.
use Rattle.std.specs.Prelude.{List, ◌≡◌, ℕ, ◌+◌, ◌%◌, ◌<◌, ◌≤◌}
use Rattle.native_measurement.specs.Natives.{natives}
use Rattle.natives.specs.Arrays.{at}

abbrev pub buckets : ℕ
buckets = 1021

abbrev pub bucket : List ℕ → ℕ → ℕ
bucket s n = at s n % buckets

-- x is the least native from lo on that f takes to h, or 540
pub record Next (f : ℕ → ℕ) (h lo x : ℕ) : Type 0 where
  pub low : lo ≤ x
  pub high : x ≤ natives
  pub none : (m : ℕ) → lo ≤ m → m < x → f m ≡ h → ⊥
  pub meets : x < natives → f x ≡ h

-- the natives from lo on are linked, and each bucket's chain has its head
abbrev pub Linked : (ℕ → ℕ) → List ℕ → ℕ → Type 0
Linked f next lo = (m : ℕ) → lo ≤ m → m < natives → Next f (f m) (m + 1) (at next m)

abbrev pub Heads : (ℕ → ℕ) → List ℕ → ℕ → Type 0
Heads f head lo = (h : ℕ) → h < buckets → Next f h lo (at head h)
