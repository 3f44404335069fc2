-- What a scan of the queue reaches. Assumes nothing.
use Rattle.std.specs.Prelude.{Bool, false, List, ◌≡◌, ℕ, ◌≤◌, ◌^◌}
use Rattle.bicycle_common.specs.Ranges.{in_turn}
use Rattle.native_measurement.specs.Natives.{natives}
use Rattle.rotations.specs.Packed.{Packed}
use Rattle.discovery.specs.Model.{State, expand}
use Rattle.discovery.specs.States.{Good}

-- From place i and state b on, place k and state s are reached: whatever was built up to i goes on up to k, for whatever natives the
-- rotations were packed of.
pub record Reaches (q : ℕ) (short : Bool) (rs ns : List ℕ) (m i : ℕ) (b : State) (k : ℕ) (s : State) : Type 0 where
  pub place : k ≤ 4 ^ q
  pub good : Good q s
  pub ended : short ≡ false → s.count ≤ k
  pub same : (f : ℕ → ℕ) (o : State) → Packed q f rs ns m natives → b ≡ in_turn i (expand q f) o → s ≡ in_turn k (expand q f) o
