-- What holds of every refusal, and of the plan where nothing is refused, holds of what a lookup answers and writes. Assumes nothing.
use Rattle.std.specs.Prelude.{Result, Ok, Err}
use mathlib.Core.Path.{◌≡◌, refl}
use mathlib.Core.Bool.{Bool, true, false, cond}
use mathlib.Core.List.{List}
use Prim.Native.Nat.{ℕ, ◌*◌, ◌≤◌}
use lib.Dec.{ltb}
use borrow.Author.Tests.{ltb-false}
use Rattle.bicycle_common.specs.declared.Refusal.{Refusal}
use Rattle.bicycle_common.specs.declared.Refusal.TheVariants.{StringRange, NoEntry, BadEntry, Room}
use Rattle.pauli_string.specs.Strings.{is_string}
use Rattle.measurement.specs.Measures.{pair_string}
use Rattle.table.specs.Bytes.{entry}
use Rattle.table.specs.Entries.{depth}
use Rattle.table.specs.Answers.{given}
use Rattle.lookup.specs.Walks.{good, missing, judged, winner}
use Rattle.lookup.specs.Answers.{Lookup, refusing, planned, found, where_passed, allowed, sought, looked_up}
use Rattle.lookup.proofs.Walks.{winner_good}

module _ (P : Lookup → Type 0) where
  -- by a test, whose outcome is known on either side
  by : (b : Bool) (o w : Lookup) → (b ≡ true → P o) → (b ≡ false → P w) → P (cond b o w)
  by true o w h k = h refl
  by false o w h k = k refl

  module _ (no : (r : Refusal) → P (refusing r)) where
    -- what is sought is planned where the winner's walk is good and the buffer has room
    pub sought_case : (q : ℕ) (f e : ℕ → ℕ) (any : Bool) (p room : ℕ)
        → (good q f e (winner any q e p) ≡ true → 2 * depth (e (winner any q e p)) ≤ room → P (planned q f e (winner any q e p)))
        → P (sought q f e any p room)
    sought_case q f e any p room h =
        let w = winner any q e p in
        by (missing any q e p) (refusing NoEntry) (cond (judged any q f e p) (found q f e w room) (refusing BadEntry)) (λ z. no NoEntry)
        (λ some. by (judged any q f e p) (found q f e w room) (refusing BadEntry)
        (λ g. by (ltb room (2 * depth (e w))) (refusing (Room (2 * depth (e w)))) (planned q f e w) (λ z. no (Room (2 * depth (e w))))
        (λ l. h (winner_good q f e any p some g) (ltb-false room (2 * depth (e w)) l)))
        (λ z. no BadEntry))

    passed_case : (g : Result (Unit {0}) Refusal) (o : Lookup) → P o → P (where_passed g o)
    passed_case (Ok _) o h = h
    passed_case (Err r) o h = no r

    pub looked_up_case : (any : Bool) (q s : ℕ) (t mx my : List ℕ) (p room : ℕ)
        → P (sought q (pair_string s mx my) (entry t) any p room) → P (looked_up any q s t mx my p room)
    unfolding looked_up
    looked_up_case any q s t mx my p room h =
        let o = sought q (pair_string s mx my) (entry t) any p room in
        passed_case (given q s t mx my) (cond (is_string q p) (where_passed (allowed any q p) o) (refusing StringRange))
        (by (is_string q p) (where_passed (allowed any q p) o) (refusing StringRange) (λ i. passed_case (allowed any q p) o h) (λ i. no StringRange))
