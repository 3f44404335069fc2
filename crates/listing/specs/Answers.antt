-- What the writer needs of a plan, and the plan's text. Assumes nothing.
use Rattle.std.specs.Prelude.{List, ◌++◌, ◌≡◌, ℕ, ◌+◌, ◌*◌, ◌^◌, ◌<◌, ◌≤◌, length, get_or, take}
use Rattle.pauli_string.specs.Strings.{qubits}
use Rattle.native_measurement.specs.Natives.{natives}
use Rattle.reader.specs.declared.StatedPlan.{StatedPlan}
use Rattle.reader.specs.Plans.{most_rotations}
use Rattle.reader.specs.Answers.{native0}
use Rattle.listing.specs.Listings.{head_text, rotations_text}

-- the listing of a plan as it is held, where f gives the natives' strings
abbrev pub listing_by : (ℕ → ℕ) → StatedPlan → List ℕ
listing_by f a = head_text a.measures.0 a.count (2 * (2 * a.count + 1)) a.base ++ rotations_text f (take a.count a.rotations)

-- a plan that can be printed, as every one that is read can
pub record Printable (a : StatedPlan) : Type 0 where
  pub measures : a.measures.0 < 4 ^ qubits
  pub long : length a.rotations ≡ most_rotations
  pub room : a.count ≤ most_rotations
  pub small : (i : ℕ) → i < a.count → (get_or a.rotations i native0).0 < natives
