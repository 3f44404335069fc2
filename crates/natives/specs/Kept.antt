-- Which native is kept of those that measure one string. Assumes nothing.
use Rattle.std.specs.Prelude.{Bool, Option, MatchOption, true, not, ◌&&◌, cond, ◌≡◌, ℕ, zero, suc, ◌<◌, ◌≤◌, eqb, ltb}
use Rattle.bicycle_common.specs.Ranges.{all_below}
use Rattle.native_measurement.specs.Natives.{natives}

-- f m is the string of native m. Native m beats n when it has the same string and a greater number.
abbrev pub beats : (ℕ → ℕ) → ℕ → ℕ → Bool
beats f m n = ltb n m && eqb (f m) (f n)

-- by a rule of who beats whom, native n is kept when no native beats it
unfoldable pub kept_by : (ℕ → ℕ → Bool) → ℕ → Bool
kept_by rule n = all_below natives (λ (m : ℕ). not (rule m n))

abbrev pub kept : (ℕ → ℕ) → ℕ → Bool
kept f = kept_by (beats f)

-- the same, as a statement: no greater number has the string of n
abbrev pub Kept : (ℕ → ℕ) → ℕ → Type 0
Kept f n = (m : ℕ) → n < m → m < natives → f m ≡ f n → ⊥

-- the greatest number below k whose string is x, or `natives` where none has it
unfoldable pub kept_below : (ℕ → ℕ) → ℕ → ℕ → ℕ
kept_below f x zero = natives
kept_below f x (suc k) = cond (eqb (f k) x) k (kept_below f x k)

-- o is the greatest native whose string is x, if there is one
abbrev pub LastWith : (ℕ → ℕ) → ℕ → Option ℕ → Type 0
LastWith f x o =
    MatchOption o ((n : ℕ) → n < natives → f n ≡ x → ⊥) (λ k. (k < natives) × (f k ≡ x) × ((n : ℕ) → k < n → n < natives → f n ≡ x → ⊥))

-- the number that is kept for string x, or `natives` where no native measures x
abbrev pub kept_for : (ℕ → ℕ) → ℕ → ℕ
kept_for f x = kept_below f x natives

-- native k is the one kept for the string of n: it has that string and is kept, it is the greatest of those that have it, and no other of
-- them is kept
pub record Keeper (f : ℕ → ℕ) (n k : ℕ) : Type 0 where
  pub below : k < natives
  pub same : f k ≡ f n
  pub is_kept : kept f k ≡ true
  pub greatest : (m : ℕ) → m < natives → f m ≡ f n → m ≤ k
  pub only : (m : ℕ) → m < natives → f m ≡ f n → kept f m ≡ true → m ≡ k
