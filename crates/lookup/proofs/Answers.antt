-- Which answer the definitions of the lookups give, test by test. Assumes nothing.
use Rattle.std.specs.Prelude.{Result, Ok, Err}
use mathlib.Core.Path.{◌≡◌, ap, ◌∙◌}
use mathlib.Core.Bool.{Bool, true, false, cond}
use mathlib.Core.List.{List}
use Prim.Native.Nat.{ℕ, ◌*◌, ◌≤◌, ◌<◌}
use borrow.Author.Tests.{lt-ltb, le-ltb, eq-eqb, ne_eqb}
use Rattle.bicycle_common.specs.declared.Refusal.{Refusal}
use Rattle.bicycle_common.specs.declared.Refusal.TheVariants.{StringRange, Identity, PivotSet, NoEntry, BadEntry, Room}
use Rattle.pauli_string.specs.Strings.{is_string, has_pivot}
use Rattle.measurement.specs.Measures.{pair_string}
use Rattle.table.specs.Bytes.{entry}
use Rattle.table.specs.Entries.{depth}
use Rattle.table.specs.Answers.{given}
use Rattle.lookup.specs.Walks.{missing, judged, winner}
use Rattle.lookup.specs.Answers.{Lookup, refusing, planned, found, where_passed, allowed, sought, looked_up}

module _ (q : ℕ) (f e : ℕ → ℕ) (p room : ℕ) where
  pub found_short : room < 2 * depth (e p) → found q f e p room ≡ refusing (Room (2 * depth (e p)))
  found_short h = rw (lt-ltb room (2 * depth (e p)) h)

  pub found_fits : 2 * depth (e p) ≤ room → found q f e p room ≡ planned q f e p
  found_fits h = rw (le-ltb room (2 * depth (e p)) h)

-- ---- 7, then 8

module _ (q : ℕ) (f e : ℕ → ℕ) (any : Bool) (p room : ℕ) where
  pub sought_none : missing any q e p ≡ true → sought q f e any p room ≡ refusing NoEntry
  sought_none z = rw z

  module _ (some : missing any q e p ≡ false) where
    pub sought_bad : judged any q f e p ≡ false → sought q f e any p room ≡ refusing BadEntry
    sought_bad z = rw (some, z)

    pub sought_found : judged any q f e p ≡ true → sought q f e any p room ≡ found q f e (winner any q e p) room
    sought_found z = rw (some, z)

-- ---- the calls

module _ (any : Bool) (q s : ℕ) (t mx my : List ℕ) (p room : ℕ) where
  -- what the table decides
  abbrev decided : Lookup
  decided = sought q (pair_string s mx my) (entry t) any p room

  -- what follows the tests of the table and the pair
  abbrev asked : Lookup
  asked = cond (is_string q p) (where_passed (allowed any q p) decided) (refusing StringRange)

  pub not_given : (r : Refusal) → given q s t mx my ≡ Err r → looked_up any q s t mx my p room ≡ refusing r
  unfolding looked_up
  not_given r z = ap (λ (o : Result (Unit {0}) Refusal). where_passed o asked) z

  module _ (g : given q s t mx my ≡ Ok tt) where
    pub not_string : is_string q p ≡ false → looked_up any q s t mx my p room ≡ refusing StringRange
    unfolding looked_up
    not_string z = ap (λ (o : Result (Unit {0}) Refusal). where_passed o asked) g ∙ rw z

    module _ (i : is_string q p ≡ true) where
      to_allowed : looked_up any q s t mx my p room ≡ where_passed (allowed any q p) decided
      unfolding looked_up
      to_allowed = ap (λ (o : Result (Unit {0}) Refusal). where_passed o asked) g ∙ rw i

      pub not_allowed : (r : Refusal) → allowed any q p ≡ Err r → looked_up any q s t mx my p room ≡ refusing r
      not_allowed r z = to_allowed ∙ ap (λ (o : Result (Unit {0}) Refusal). where_passed o decided) z

      pub is_sought : allowed any q p ≡ Ok tt → looked_up any q s t mx my p room ≡ decided
      is_sought z = to_allowed ∙ ap (λ (o : Result (Unit {0}) Refusal). where_passed o decided) z

-- ---- which strings are allowed

module _ (q p : ℕ) where
  pub exact_not : p ≡ 0 → allowed false q p ≡ Err Identity
  exact_not z = rw (eq-eqb p 0 z)

  pub exact_allowed : (p ≡ 0 → ⊥) → allowed false q p ≡ Ok tt
  exact_allowed h = rw (ne_eqb p 0 h)

  pub free_not : has_pivot q p ≡ true → allowed true q p ≡ Err PivotSet
  free_not z = rw z

  pub free_allowed : has_pivot q p ≡ false → allowed true q p ≡ Ok tt
  free_allowed z = rw z
