-- The model reads only the strings of the natives: two functions that agree on these build the same. Assumes nothing.
use mathlib.Core.Path.{◌≡◌, refl, ap, ap₂, ◌∙◌}
use mathlib.Core.Bool.{Bool, cond, ◌&&◌}
use Prim.Native.Nat.{ℕ, zero, suc, ◌+◌, ◌^◌, ◌<◌, ◌≤◌}
use native.Mathlib.Omega.{arith}
use lib.Dec.{eqb, ltb}
use Rattle.bicycle_common.specs.Ranges.{in_turn}
use Rattle.bicycle_common.proofs.Ranges.{in_turn_same}
use Rattle.pauli_string.specs.Strings.{has_pivot, rotate}
use Rattle.native_measurement.specs.Natives.{natives}
use Rattle.natives.specs.Kept.{kept_below, kept_for}
use Rattle.natives.proofs.Kept.{kept_same}
use Rattle.table.specs.Bytes.{entry}
use Rattle.table.specs.Entries.{depth, value}
use Rattle.discovery.specs.Model.{State, discover, begun, seed, attempt, turn, expand, seeded, built}

module _ (q : ℕ) (f g : ℕ → ℕ) (h : (n : ℕ) → n < natives → f n ≡ g n) where
  kept_below_same : (x k : ℕ) → k ≤ natives → kept_below f x k ≡ kept_below g x k
  unfolding kept_below
  kept_below_same x zero l = refl
  kept_below_same x (suc k) l = ap₂ (λ (a b : ℕ). cond (eqb a x) k b) (h k l) (kept_below_same x k (omega arith))

  seed_same : (n : ℕ) → n < natives → (s : State) → seed f n s ≡ seed g n s
  unfolding seed
  seed_same n l s =
      let k : kept_for f (f n) ≡ kept_for g (g n) = kept_below_same (f n) natives (omega arith) ∙ ap (kept_for g) (h n l) in
      ap₂ (λ (x k : ℕ). cond (eqb x 0) s (discover x (value 0 k) s)) (h n l) k

  attempt_same : (p d n : ℕ) → n < natives → (s : State) → attempt q f p d n s ≡ attempt q g p d n s
  unfolding attempt
  attempt_same p d n l s =
      ap₂ (λ (b : Bool) (x : ℕ). cond (b && has_pivot q x) (discover (rotate q p x) (value d n) s) s) (kept_same f g h n l) (h n l)

  turn_same : (p : ℕ) (s : State) → turn q f p s ≡ turn q g p s
  unfolding turn
  turn_same p s =
      let d = depth (entry s.table p) + 1 in
      in_turn_same natives (attempt q f p d) (attempt q g p d) s (λ n l a. attempt_same p d n l a)

  expand_same : (i : ℕ) (s : State) → expand q f i s ≡ expand q g i s
  unfolding expand
  expand_same i s = ap (λ (w : State). cond (ltb i s.count) w s) (turn_same (entry s.queue i) s)

  pub built_same : built q f ≡ built q g
  unfolding built seeded
  built_same =
      in_turn_same (4 ^ q) (expand q f) (expand q g) (in_turn natives (seed f) (begun q)) (λ i l a. expand_same i a)
      ∙ ap (in_turn (4 ^ q) (expand q g)) (in_turn_same natives (seed f) (seed g) (begun q) (λ n l a. seed_same n l a))
