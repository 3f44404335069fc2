-- On a table that meets the rules every walk from an entry is good, so that the lookups of a string with an entry are not refused, but for
-- room. Assumes nothing.
use Rattle.std.specs.Prelude.{Ok}
use mathlib.Core.Path.{◌≡◌, refl, sym, ap, subst, ◌∙◌}
use mathlib.Core.Bool.{Bool, true, false, ◌&&◌, and-eq-true_iff}
use mathlib.Core.List.{List, []}
use Prim.Native.Nat.{ℕ, zero, suc, ◌+◌, ◌-◌, ◌*◌, ◌^◌, ◌≤◌, ◌<◌}
use native.Mathlib.Omega.{arith}
use native.Mathlib.Decide.{ℕ_discrete}
use lib.Dec.{eqb}
use borrow.Author.Tests.{eq-eqb, ne_eqb, eqb-true, eqb-false}
use Rattle.bicycle_common.specs.declared.Pauli.{Pauli}
use Rattle.bicycle_common.specs.declared.Pauli.TheVariants.{I, X, Z, Y}
use Rattle.bicycle_common.specs.Ranges.{list_from, listed}
use Rattle.pauli_string.specs.Strings.{blank, has_pivot, letter_at}
use Rattle.pauli_string.proofs.Pivot.{rotate_string, rotate_nonzero, blank_pivot, blank_le}
use Rattle.pauli_string.proofs.Places.{set_letter_same}
use Rattle.pauli_string.proofs.Range.{is_string_law}
use Rattle.measurement.specs.Measures.{pair_string}
use Rattle.shortest.specs.Graphs.{Has}
use Rattle.table.specs.Bytes.{entry}
use Rattle.table.specs.Entries.{depth, leads, named}
use Rattle.table.specs.Rules.{Deep, Rule}
use Rattle.table.specs.Plans.{Nonzero}
use Rattle.table.specs.Answers.{given}
use Rattle.table.proofs.Rules.{deep_none, rule_valid}
use Rattle.lookup.specs.Walks.{next, down, good, sound, candidate, missing, judged, winner}
use Rattle.lookup.specs.Answers.{plan_by, planned, allowed, sought, looked_up}
use Rattle.lookup.proofs.Walks.{down_none, At, good_all, sound_none, sound_some, best_of, candidate_string}
use Rattle.lookup.proofs.Answers.{found_fits, sought_found, is_sought, exact_allowed, free_allowed}

module _ (q : ℕ) (f e : ℕ → ℕ) (small : (n : ℕ) → f n < 4 ^ q) (ok : (p : ℕ) → p < 4 ^ q → Rule q f e p) where
  -- a string of depth above 0 leads down by one
  steps_down : (x : ℕ) → Nonzero q x → Has e x → 1 ≤ depth (e x) → Nonzero q (next q f e x) × Has e (next q f e x) × (depth (e (next q f e x)) + 1 ≡ depth (e x))
  unfolding next
  steps_down x i h l = down_by ((ok x i.below).other i.some (deep_none q f small e ok x i l) h)
    where
      down_by : Deep q f e x → Nonzero q (leads q f x (named (e x))) × Has e (leads q f x (named (e x))) × (depth (e (leads q f x (named (e x)))) + 1 ≡ depth (e x))
      down_by d =
          let n = d.down.0 in
          let w = d.down.1 in
          let z : named (e x) ≡ n = omega (arith, w.named) in
          let y = leads q f x (named (e x)) in
          let has : Has e y = subst (λ (k : ℕ). Has e (leads q f x k)) (sym z) w.has in
          let less : depth (e y) ≡ depth (e x) - 1 = subst (λ (k : ℕ). depth (e (leads q f x k)) ≡ depth (e x) - 1) (sym z) w.less in (
            record { below = rotate_string q x (f (named (e x))) i.below (small (named (e x))); some = λ v. i.some (rotate_nonzero q x (f (named (e x))) v) },
            has,
            omega (arith, less),
          )

  module _ (p : ℕ) (i : Nonzero q p) (h : Has e p) where
    ruled : (k : ℕ) → k ≤ depth (e p) → Nonzero q (down q f e p k) × Has e (down q f e p k) × (depth (e (down q f e p k)) + k ≡ depth (e p))
    unfolding down
    ruled zero l = (i, h, omega arith)
    ruled (suc k) l =
        let r = ruled k (omega arith) in
        let s = steps_down (down q f e p k) r.0 r.1 (omega (arith, r.2)) in
        (s.0, s.1, omega (arith, s.2, r.2))

    -- every walk from an entry is good
    rule_good : good q f e p ≡ true
    rule_good = good_all q f e p (λ k l. stand k (ruled k l))
      where
        stand : (k : ℕ) → Nonzero q (down q f e p k) × Has e (down q f e p k) × (depth (e (down q f e p k)) + k ≡ depth (e p)) → At q f e p k ≡ true
        stand k r =
            let x = down q f e p k in
            let d : depth (e x) ≡ depth (e p) - k = omega (arith, r.2) in
            rw (eq-eqb (depth (e x)) (depth (e p) - k) d) (rule_valid q f e x (ok x r.0.below) r.0.some r.1)

  -- and every string is sound
  rule_sound : (x : ℕ) → Nonzero q x → sound q f e x ≡ true
  rule_sound x i = elim (ℕ_discrete (e x) 0) [
    | yes z ↦ sound_none q f e x z
    | no h ↦ sound_some q f e x h ∙ rule_good x i h
  ]

-- ---- what may be asked

-- with a letter on the pivot no string is the identity
pub candidate_nonzero : (q p : ℕ) (l : Pauli) → 0 < q → p < 4 ^ q → (l ≡ I → ⊥) → Nonzero q (candidate q p l)
candidate_nonzero q p l h below some = record {
  below = candidate_string q p l h below;
  some = λ z. some (sym (set_letter_same q p 0 l h) ∙ ap (λ (x : ℕ). letter_at q x 0) z ∙ identity_letter);
}
  where
    identity_letter : letter_at q 0 0 ≡ I
    identity_letter =
        let z : blank q 0 ≡ 0 = omega (arith, blank_le q 0) in
        ap (λ (x : ℕ). letter_at q x 0) (sym z) ∙ blank_pivot q 0 h

-- of the exact lookup any string but the identity, of the pivot-free one any string without a letter on the pivot
abbrev pub Askable : Bool → ℕ → ℕ → Type 0
Askable true q p = (p < 4 ^ q) × (has_pivot q p ≡ false)
Askable false q p = Nonzero q p

module _ (q p : ℕ) where
  ask_string : (any : Bool) → Askable any q p → p < 4 ^ q
  ask_string true a = a.0
  ask_string false a = a.below

  ask_allowed : (any : Bool) → Askable any q p → allowed any q p ≡ Ok tt
  ask_allowed true a = free_allowed q p a.1
  ask_allowed false a = exact_allowed q p a.some

  -- a lookup that may be asked is decided by the table
  pub ask_sought : (any : Bool) (s : ℕ) (t mx my : List ℕ) (room : ℕ) → Askable any q p → given q s t mx my ≡ Ok tt
      → looked_up any q s t mx my p room ≡ sought q (pair_string s mx my) (entry t) any p room
  ask_sought any s t mx my room a g = is_sought any q s t mx my p room g (is_string_law q p (ask_string any a)) (ask_allowed any a)

  module _ (positive : 0 < q) (e : ℕ → ℕ) where
    -- the three candidates are not the identity
    candidates : (P : ℕ → Type 0) → p < 4 ^ q → ((x : ℕ) → Nonzero q x → P x) → P (candidate q p X) × P (candidate q p Z) × P (candidate q p Y)
    candidates P below h = (
      h (candidate q p X) (candidate_nonzero q p X positive below (λ z. let n : ◌≡◌ {A = ℕ} 0 1 = cc in omega arith)),
      h (candidate q p Z) (candidate_nonzero q p Z positive below (λ z. let n : ◌≡◌ {A = ℕ} 0 1 = cc in omega arith)),
      h (candidate q p Y) (candidate_nonzero q p Y positive below (λ z. let n : ◌≡◌ {A = ℕ} 0 1 = cc in omega arith)),
    )

    -- nor is the string that is looked up
    pub winner_nonzero : (any : Bool) → Askable any q p → Nonzero q (winner any q e p)
    winner_nonzero true a =
        let c = candidates (Nonzero q) a.0 (λ x i. i) in
        best_of e (candidate q p X) (candidate q p Z) (candidate q p Y) (Nonzero q) c.0 c.1 c.2
    winner_nonzero false a = a

    -- where that has an entry, none is missing
    winner_some : (any : Bool) → Has e (winner any q e p) → missing any q e p ≡ false
    winner_some true h = go (missing true q e p) refl
      where
        go : (b : Bool) → missing true q e p ≡ b → missing true q e p ≡ false
        go false z = z
        go true z =
            let a = (and-eq-true_iff (eqb (e (candidate q p X)) 0 && eqb (e (candidate q p Z)) 0) (eqb (e (candidate q p Y)) 0)).0 z in
            let b = (and-eq-true_iff (eqb (e (candidate q p X)) 0) (eqb (e (candidate q p Z)) 0)).0 a.0 in
            absurd (h (best_of e (candidate q p X) (candidate q p Z) (candidate q p Y) (λ (x : ℕ). e x ≡ 0) (eqb-true _ _ b.0) (eqb-true _ _ b.1) (eqb-true _ _ a.1)))
    winner_some false h = ne_eqb (e p) 0 h

    -- ---- where every index meets its rule

    module _ (f : ℕ → ℕ) (small : (n : ℕ) → f n < 4 ^ q) (ok : (x : ℕ) → x < 4 ^ q → Rule q f e x) where
      -- no walk is bad
      pub rule_judged : (any : Bool) → Askable any q p → missing any q e p ≡ false → judged any q f e p ≡ true
      rule_judged true a some =
          let c = candidates (λ (x : ℕ). sound q f e x ≡ true) a.0 (λ x i. rule_sound q f e small ok x i) in
          rw (c.0, c.1, c.2)
      rule_judged false a some = rule_good q f e small ok p a (eqb-false (e p) 0 some)

      -- with an entry and room the plan of the walk is answered
      pub rule_planned : (any : Bool) (room : ℕ) → Askable any q p → Has e (winner any q e p) → 2 * depth (e (winner any q e p)) ≤ room
          → sought q f e any p room ≡ planned q f e (winner any q e p)
      rule_planned any room a h l =
          sought_found q f e any p room (winner_some any h) (rule_judged any a (winner_some any h)) ∙ found_fits q f e (winner any q e p) room l

-- ---- a native

-- the plan of a string of depth 0 is its native alone
pub planned_native : (q : ℕ) (f e : ℕ → ℕ) (p : ℕ) → depth (e p) ≡ 0 → planned q f e p ≡ plan_by p (named (e p)) 0 p []
unfolding list_from
planned_native q f e p z =
    ap (λ (d : ℕ). plan_by (down q f e p d) (named (e (down q f e p d))) d p (listed (λ (i : ℕ). named (e (down q f e p (d - 1 - i)))) d)) z
    ∙ ap (λ (x : ℕ). plan_by x (named (e x)) 0 p []) (down_none q f e p)
