-- The natives of a pair, as they are held: each string reads as it is defined and is a string, and the flags say which natives are kept.
-- Assumes nothing.
use mathlib.Core.Path.{◌≡◌, ap, ◌∙◌}
use mathlib.Core.List.{List}
use Prim.Native.Nat.{ℕ, ◌^◌, ◌≤◌, ◌<◌}
use native.Mathlib.Omega.{arith}
use native.Mathlib.Decide.{dec_lt}
use lib.Dec.{lit<}
use lib.ListN.{length, get_or-eq_default}
use Rattle.bicycle_common.specs.Ranges.{listed}
use Rattle.bicycle_common.proofs.Ranges.{length_from, listed_at}
use Rattle.pauli_string.specs.Strings.{qubits}
use Rattle.native_measurement.specs.Natives.{natives}
use Rattle.measurement.specs.Matrices.{side, Matrix, of_bytes}
use Rattle.measurement.specs.Measures.{native_string, pair_string}
use Rattle.measurement.proofs.Strings.{native_lt}
use Rattle.natives.specs.Arrays.{at, strings, Held, flags}
use Rattle.natives.proofs.Kept.{flags_same}

-- a list of strings holds strings, and 0 behind them
listed_small : (f : ℕ → ℕ) (b : ℕ) → ((n : ℕ) → f n < b) → (i : ℕ) → at (listed f natives) i < b
listed_small f b h i = elim (dec_lt i natives) [
  | yes l ↦ omega (arith, listed_at f 0 natives i l, h i)
  | no g ↦ omega (arith, get_or-eq_default (listed f natives) 0 (long g), h 0)
]
  where
    long : (i < natives → ⊥) → length (listed f natives) ≤ i
    long g = omega (arith, length_from f 0 natives)

-- ---- the strings

module _ (mx my : Matrix) (l : List ℕ) (e : l ≡ strings mx my) where
  pub strings_at : (n : ℕ) → n < natives → at l n ≡ native_string side mx my n
  strings_at n h = ap (λ (m : List ℕ). at m n) e ∙ listed_at (native_string side mx my) 0 natives n h

  pub strings_held : Held qubits l
  strings_held = record {
    long = ap (λ (m : List ℕ). length m) e ∙ length_from (native_string side mx my) 0 natives;
    small = λ i. rw e (listed_small (native_string side mx my) (4 ^ qubits) (native_lt side (lit< tt) mx my) i);
  }

-- ---- strings and flags

module _ (mx my : List ℕ) (l : List ℕ) (e : l ≡ strings (of_bytes side mx) (of_bytes side my)) where
  pub natives_at : (n : ℕ) → n < natives → at l n ≡ pair_string side mx my n
  natives_at = strings_at (of_bytes side mx) (of_bytes side my) l e

  -- the flags read the strings alone
  pub flags_of_strings : flags (at l) ≡ flags (pair_string side mx my)
  flags_of_strings = flags_same (at l) (pair_string side mx my) natives_at
