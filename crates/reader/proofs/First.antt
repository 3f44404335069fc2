-- Behind good rotation lines the first bad one decides, and one too many is bad whatever it says. Assumes nothing.
use Rattle.std.specs.Prelude.{Ok, Err}
use mathlib.Core.List.{List, [], ◌∷◌, ◌++◌}
use mathlib.Core.Path.{◌≡◌, refl}
use Prim.Native.Nat.{ℕ, zero, suc, ◌<◌}
use native.Mathlib.Omega.{arith}
use lib.ListN.{length}
use Rattle.bicycle_common.specs.declared.Refusal.{Refusal}
use Rattle.bicycle_common.specs.declared.Refusal.TheVariants.{PlanInput}
use Rattle.native_measurement.specs.declared.NativeNumber.{NativeNumber}
use Rattle.reader.specs.Plans.{rotation_line, rotation_lines}
use Rattle.reader.proofs.Good.{both_good}

module _ (f : ℕ → ℕ) (after : List (List ℕ)) (l : List ℕ) where
  pub bad_behind : (before : List (List ℕ)) (ns : List NativeNumber) (r : Refusal) (k : ℕ) → length before < k
      → rotation_lines f (length before) before ≡ Ok ns → rotation_line f l ≡ Err r → rotation_lines f k (before ++ l ∷ after) ≡ Err r
  unfolding rotation_lines
  bad_behind before ns r zero h g e = absurd (omega arith)
  bad_behind [] ns r (suc k) h g e = rw e
  bad_behind (a ∷ before) ns r (suc k) h g e =
      let x = both_good (rotation_line f a) _ ns g in
      let y = both_good (rotation_lines f (length before) before) _ ns x.2 in
      rw (x.1, bad_behind before y.0 r k (omega arith) y.1 e)

  pub full_behind : (before : List (List ℕ)) (ns : List NativeNumber) → rotation_lines f (length before) before ≡ Ok ns
      → rotation_lines f (length before) (before ++ l ∷ after) ≡ Err PlanInput
  unfolding rotation_lines
  full_behind [] ns g = refl
  full_behind (a ∷ before) ns g =
      let x = both_good (rotation_line f a) _ ns g in
      let y = both_good (rotation_lines f (length before) before) _ ns x.2 in
      rw (x.1, full_behind before y.0 y.1)
