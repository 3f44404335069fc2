-- What the model does, choice by choice. Assumes nothing.
use mathlib.Core.Path.{◌≡◌, ap, ◌∙◌}
use mathlib.Core.Bool.{Bool, true, false, cond}
use Prim.Native.Nat.{ℕ, ◌+◌, ◌≤◌, ◌<◌}
use native.Mathlib.Decide.{ℕ_discrete}
use borrow.Author.Tests.{eq-eqb, ne_eqb, lt-ltb, le-ltb}
use Rattle.bicycle_common.specs.Ranges.{in_turn}
use Rattle.native_measurement.specs.Natives.{natives}
use Rattle.natives.specs.Kept.{kept_for}
use Rattle.shortest.specs.Graphs.{Has}
use Rattle.table.specs.Bytes.{entry, put}
use Rattle.table.specs.Entries.{depth, value, is_rotation, leads}
use Rattle.table.proofs.Bytes.{entry_put_other}
use Rattle.discovery.specs.Model.{State, state, discover, seed, attempt, turn, expand}

-- ---- one discovery

-- table and queue with x discovered
abbrev pub added : ℕ → ℕ → State → State
added x v s = state (put s.table x v) (put s.queue s.count x) (s.count + 1)

pub discover_new : (s : State) (x v : ℕ) → entry s.table x ≡ 0 → discover x v s ≡ added x v s
unfolding discover
discover_new s x v z = ap (λ (b : Bool). cond b (added x v s) s) (eq-eqb (entry s.table x) 0 z)

pub discover_old : (s : State) (x v : ℕ) → Has (entry s.table) x → discover x v s ≡ s
unfolding discover
discover_old s x v h = ap (λ (b : Bool). cond b (added x v s) s) (ne_eqb (entry s.table x) 0 h)

-- what has an entry keeps it
pub discover_keeps : (s : State) (x v p : ℕ) → Has (entry s.table) p → entry (discover x v s).table p ≡ entry s.table p
discover_keeps s x v p h = elim (ℕ_discrete (entry s.table x) 0) [
  | yes z ↦ ap (λ (s : State). entry s.table p) (discover_new s x v z) ∙ entry_put_other s.table x v p (λ w. h (ap (entry s.table) w ∙ z))
  | no f ↦ ap (λ (s : State). entry s.table p) (discover_old s x v f)
]

-- ---- a source

pub seed_none : (f : ℕ → ℕ) (n : ℕ) (s : State) → f n ≡ 0 → seed f n s ≡ s
unfolding seed
seed_none f n s z = ap (λ (b : Bool). cond b s (discover (f n) (value 0 (kept_for f (f n))) s)) (eq-eqb (f n) 0 z)

pub seed_some : (f : ℕ → ℕ) (n : ℕ) (s : State) → (f n ≡ 0 → ⊥) → seed f n s ≡ discover (f n) (value 0 (kept_for f (f n))) s
unfolding seed
seed_some f n s h = ap (λ (b : Bool). cond b s (discover (f n) (value 0 (kept_for f (f n))) s)) (ne_eqb (f n) 0 h)

-- ---- a rotation

pub attempt_yes : (q : ℕ) (f : ℕ → ℕ) (p d n : ℕ) (s : State) → is_rotation q f n ≡ true → attempt q f p d n s ≡ discover (leads q f p n) (value d n) s
unfolding attempt
attempt_yes q f p d n s e = ap (λ (b : Bool). cond b (discover (leads q f p n) (value d n) s) s) e

pub attempt_no : (q : ℕ) (f : ℕ → ℕ) (p d n : ℕ) (s : State) → is_rotation q f n ≡ false → attempt q f p d n s ≡ s
unfolding attempt
attempt_no q f p d n s e = ap (λ (b : Bool). cond b (discover (leads q f p n) (value d n) s) s) e

-- ---- a place of the queue

pub expand_turn : (q : ℕ) (f : ℕ → ℕ) (i : ℕ) (s : State) → i < s.count
    → expand q f i s ≡ in_turn natives (attempt q f (entry s.queue i) (depth (entry s.table (entry s.queue i)) + 1)) s
unfolding expand turn
expand_turn q f i s l =
    ap (λ (b : Bool). cond b (in_turn natives (attempt q f (entry s.queue i) (depth (entry s.table (entry s.queue i)) + 1)) s) s)
    (lt-ltb i s.count l)

pub expand_idle : (q : ℕ) (f : ℕ → ℕ) (i : ℕ) (s : State) → s.count ≤ i → expand q f i s ≡ s
unfolding expand
expand_idle q f i s l = ap (λ (b : Bool). cond b (turn q f (entry s.queue i) s) s) (le-ltb i s.count l)
