-- Where the check stops decides its answer, and two permitted answers are the same. Assumes nothing.
use mathlib.Core.Bool.{Bool, true, false}
use mathlib.Core.List.{List}
use mathlib.Core.Path.{◌≡◌, refl, ap}
use Prim.Native.Nat.{ℕ, ◌^◌, ◌<◌, ◌≤◌}
use borrow.Author.Tests.{ltb-true, ltb-false}
use lib.Dec.{ltb}
use native.Mathlib.Omega.{arith}
use native.Mathlib.Decide.{ℕ_discrete, dec_lt}
use Rattle.std.specs.Prelude.{Option, Some, None, Result, Ok, Err}
use Rattle.std.specs.Bool.{then_some}
use Rattle.bicycle_common.specs.declared.Refusal.{Refusal}
use Rattle.pauli_string.specs.declared.PauliString.{PauliString}
use Rattle.measurement.specs.Measures.{pair_string}
use Rattle.table.specs.Answers.{given}
use Rattle.table.specs.Bytes.{entry}
use Rattle.table_check.specs.Answers.{Fails, Checked}
use Rattle.table_check.specs.Tests.{Stops}

module _ (q s : ℕ) (t mx my : List ℕ) where
  -- ---- where the check stops

  module _ (r : ℕ) (done : given q s t mx my ≡ Ok tt) (h : Stops q (pair_string s mx my) (entry t) r) where
    stops_by : (b : Bool) → (b ≡ true → r < 4 ^ q) → (b ≡ false → 4 ^ q ≤ r) → Checked q s t mx my (Ok (then_some b (record { 0 = r })))
    stops_by true below _ = record { done = done; index = below refl; breaks = h.breaks (below refl); lowest = h.meets }
    stops_by false _ behind = let l = behind refl in record { done = done; every = λ p g. h.meets p (omega arith) }

    pub stops_checked : Checked q s t mx my (Ok (then_some (ltb r (4 ^ q)) (record { 0 = r })))
    stops_checked = stops_by (ltb r (4 ^ q)) (ltb-true r (4 ^ q)) (ltb-false r (4 ^ q))

  -- ---- one answer

  -- an index that breaks its rule is not below the lowest that does
  lowest_one : (i j : ℕ) → Fails q s t mx my i → Fails q s t mx my j → i ≡ j
  lowest_one i j a b = elim (ℕ_discrete i j) [
    | yes z ↦ z
    | no f ↦ elim (dec_lt i j) [ yes l ↦ absurd (a.breaks (b.lowest i l)) | no g ↦ absurd (b.breaks (a.lowest j (omega arith))) ]
  ]

  -- two permitted answers are the same
  pub checked_one : (a b : Result (Option PauliString) Refusal) → Checked q s t mx my a → Checked q s t mx my b → a ≡ b
  checked_one (Ok None) (Ok None) h g = refl
  checked_one (Ok None) (Ok (Some j)) h g = absurd (g.breaks (h.every j.0 g.index))
  checked_one (Ok (Some i)) (Ok None) h g = absurd (h.breaks (g.every i.0 h.index))
  checked_one (Ok (Some i)) (Ok (Some j)) h g = ap (λ (n : ℕ). Ok (Some (record { 0 = n }))) (lowest_one i.0 j.0 h g)
  checked_one (Ok None) (Err l) h g = cc (h.done, g)
  checked_one (Ok (Some i)) (Err l) h g = cc (h.done, g)
  checked_one (Err k) (Ok None) h g = cc (h, g.done)
  checked_one (Err k) (Ok (Some j)) h g = cc (h, g.done)
  checked_one (Err k) (Err l) h g = cc (h, g)
