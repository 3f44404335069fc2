-- Filling sets the bucket of every string that leads to one without an entry, since a rotation leads back; what a filter shows stays, since
-- entries do. Assumes nothing.
use mathlib.Core.Path.{◌≡◌, refl, sym, ap, ◌∙◌}
use mathlib.Core.List.{List}
use Prim.Native.Nat.{ℕ, ◌+◌, ◌^◌, ◌<◌}
use native.Mathlib.Omega.{arith}
use native.Mathlib.Decide.{ℕ_discrete}
use lib.ListN.{length, replicate, length-replicate}
use Rattle.pauli_string.specs.Strings.{rotate}
use Rattle.pauli_string.proofs.Pivot.{rotate_rotate, rotate_string}
use Rattle.natives.specs.Arrays.{at}
use Rattle.shortest.specs.Graphs.{Has}
use Rattle.table.specs.Bytes.{entry}
use Rattle.digits.specs.Filter.{buckets, place, bucket, Covers, Rises, Marked, Filled}
use Rattle.digits.proofs.Digits.{ones_digit}

-- ---- what a filter shows

-- every bucket is set
covers_ones : (q : ℕ) (rs : List ℕ) (m n : ℕ) (t : List ℕ) → n ≡ buckets → Covers q rs m (replicate n 255) t
covers_ones q rs m n t z = record {
  long = length-replicate n 255 ∙ z;
  sees = λ p i hp hi e w. omega (arith, ones_digit n (place p) (omega arith));
}

pub covers_fresh : (q : ℕ) (rs : List ℕ) (m : ℕ) (t : List ℕ) → Covers q rs m (replicate buckets 255) t
covers_fresh q rs m t = covers_ones q rs m buckets t refl

-- entries stay, so what a filter shows stays
pub covers_grows : (q : ℕ) (rs : List ℕ) (m : ℕ) (filter t t' : List ℕ) → Covers q rs m filter t
    → ((x : ℕ) → Has (entry t) x → entry t' x ≡ entry t x) → Covers q rs m filter t'
covers_grows q rs m filter t t' h keeps = record {
  long = h.long;
  sees = λ p i hp hi z w. elim (ℕ_discrete (entry t (rotate q p (at rs i))) 0)
      [ yes e ↦ h.sees p i hp hi e w | no g ↦ g (sym (keeps (rotate q p (at rs i)) g) ∙ z) ];
}

-- ---- filling

pub filled_more : (q : ℕ) (rs : List ℕ) (m : ℕ) (f g t : List ℕ) (k : ℕ) → Rises f g → (entry t k ≡ 0 → Marked q rs g k m) → Filled q rs m f t k
    → Filled q rs m g t (k + 1)
filled_more q rs m f g t k r here h z l e i b w = elim (ℕ_discrete z k) [
  | yes c ↦ here (sym (ap (entry t) c) ∙ e) i b (sym (ap (λ (z : ℕ). bucket g (rotate q z (at rs i))) c) ∙ w)
  | no c ↦ h z (omega arith) e i b (r (place (rotate q z (at rs i))) w)
]

pub filled_covers : (q : ℕ) (rs : List ℕ) (m : ℕ) (filter t : List ℕ) → length filter ≡ buckets → ((i : ℕ) → at rs i < 4 ^ q)
    → Filled q rs m filter t (4 ^ q) → Covers q rs m filter t
filled_covers q rs m filter t l small h = record {
  long = l;
  sees = λ p i hp hi z w.
      h (rotate q p (at rs i)) (rotate_string q p (at rs i) hp (small i)) z i hi (ap (bucket filter) (rotate_rotate q p (at rs i)) ∙ w);
}
