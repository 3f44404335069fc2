-- What the reader answers can be printed, and its text is the output. Assumes nothing.
use Rattle.std.specs.Prelude.{Result, Ok, Err}
use mathlib.Core.Bool.{true}
use mathlib.Core.List.{List, [], ◌∷◌, ◌++◌}
use mathlib.Core.Path.{◌≡◌, refl, sym, ap, ◌∙◌}
use Prim.Native.Nat.{ℕ, zero, suc, ◌+◌, ◌-◌, ◌<◌}
use native.Mathlib.Omega.{arith}
use lib.ListN.{length, get_or, replicate, length-append, length-replicate}
use lib.Seq.{take-append_seam}
use Rattle.bicycle_common.specs.declared.Refusal.{Refusal}
use Rattle.pauli_string.specs.Strings.{qubits}
use Rattle.native_measurement.specs.declared.NativeNumber.{NativeNumber}
use Rattle.native_measurement.specs.Natives.{natives}
use Rattle.measurement.specs.Matrices.{side, is_bytes}
use Rattle.table.specs.Plans.{All, Supported}
use Rattle.reader.specs.declared.StatedPlan.{StatedPlan}
use Rattle.reader.specs.Plans.{Plan, strings_of, numbers, most_rotations, read_plan}
use Rattle.reader.specs.Answers.{native0, held, stated}
use Rattle.reader.specs.Sound.{Sound}
use Rattle.reader.proofs.Sound.{read_sound}
use Rattle.reader.proofs.Measured.{measured_string}
use Rattle.listing.specs.Listings.{rotation_text, rotations_text, listing, plan_text, refusal_text, text_of, output}
use Rattle.listing.specs.Answers.{listing_by, Printable}
use Rattle.listing.proofs.ShiftCount.{shifts_count}

-- ---- the listing of a plan

-- only the strings of natives matter
module _ (f g : ℕ → ℕ) (e : (n : ℕ) → n < natives → g n ≡ f n) where
  rotation_same : (n : NativeNumber) → n.0 < natives → rotation_text g n ≡ rotation_text f n
  unfolding rotation_text
  rotation_same n h = rw (e n.0 h)

  rotations_same : (ns : List NativeNumber) → All (Supported qubits f) (numbers ns) → rotations_text g ns ≡ rotations_text f ns
  unfolding rotations_text
  rotations_same [] a = refl
  rotations_same (n ∷ ns) a = rw (rotation_same n a.0.0, rotations_same ns a.1)

-- the natives of a list, and others behind them
natives_small : (f : ℕ → ℕ) (ns ms : List NativeNumber) → All (Supported qubits f) (numbers ns) → (i : ℕ) → i < length ns → (get_or (ns ++ ms) i native0).0 < natives
natives_small f [] ms a i h = absurd (omega arith)
natives_small f (n ∷ ns) ms a zero h = a.0.0
natives_small f (n ∷ ns) ms a (suc i) h = natives_small f ns ms a.1 i (omega arith)

module _ (p : Plan) (s : Sound p) where
  zeros : List NativeNumber
  zeros = replicate (most_rotations - length p.rotations) native0

  plan_printable : Printable (held p)
  unfolding zeros
  plan_printable = record {
    measures = measured_string p;
    long = length-append p.rotations zeros ∙ ap (λ (k : ℕ). length p.rotations + k) (length-replicate (most_rotations - length p.rotations) native0) ∙ omega (arith, s.few);
    room = s.few;
    small = natives_small (strings_of p.pair) p.rotations zeros s.gives.supported;
  }

  plan_listed : (g : ℕ → ℕ) → ((n : ℕ) → n < natives → g n ≡ strings_of p.pair n) → listing_by g (held p) ≡ plan_text p
  unfolding plan_text listing zeros
  plan_listed g e =
      rw (take-append_seam p.rotations zeros, shifts_count p.base p.rotations, rotations_same (strings_of p.pair) g e p.rotations s.gives.supported)

-- ---- what the reader answers

stated_ok : (x : Result Plan Refusal) (a : StatedPlan) → stated x ≡ Ok a → (p : Plan) × (x ≡ Ok p) × (held p ≡ a)
stated_ok (Ok p) a e = (p, refl, cc)
stated_ok (Err r) a e = let z : ◌≡◌ {A = ℕ} 0 1 = cc in absurd (omega arith)

stated_err : (x : Result Plan Refusal) (r : Refusal) → stated x ≡ Err r → x ≡ Err r
stated_err (Ok p) r e = let z : ◌≡◌ {A = ℕ} 0 1 = cc in absurd (omega arith)
stated_err (Err q) r e = let i : q ≡ r = cc in ap Err i

-- the plan that s states, as it is held
module _ (s : List ℕ) (a : StatedPlan) (e : stated (read_plan s) ≡ Ok a) where
  found : (p : Plan) × (read_plan s ≡ Ok p) × (held p ≡ a)
  found = stated_ok (read_plan s) a e

  sound : Sound found.0
  sound = read_sound s found.0 found.1

  pub read_matrices : (is_bytes side a.pair.mx ≡ true) × (is_bytes side a.pair.my ≡ true)
  read_matrices = rw (← found.2) (sound.mx, sound.my)

  pub read_printable : Printable a
  read_printable = rw (← found.2) (plan_printable found.0 sound)

  pub read_listed : (g : ℕ → ℕ) → ((n : ℕ) → n < natives → g n ≡ strings_of a.pair n) → listing_by g a ≡ output s
  unfolding output
  read_listed = rw (← found.2) (λ g h. plan_listed found.0 sound g h ∙ ap text_of (sym found.1))

-- the refusal
pub read_refused : (s : List ℕ) (r : Refusal) → stated (read_plan s) ≡ Err r → refusal_text r ≡ output s
unfolding output
read_refused s r e = rw (stated_err (read_plan s) r e)
