-- An array that a loop fills from the front, one place a turn: what the loop keeps, from its first turn to its end. Assumes nothing.
use mathlib.Core.Path.{◌≡◌, sym, ◌∙◌}
use mathlib.Core.List.{List}
use Prim.Native.Nat.{ℕ, ◌+◌, ◌<◌, ◌≤◌}
use native.Mathlib.Omega.{arith}
use lib.ListN.{length, length-set, get_or, set}
use lib.Seq.{ext_get_or}
use Rattle.bicycle_common.specs.Ranges.{listed}
use Rattle.bicycle_common.proofs.Ranges.{stored_more, listed_all}

-- l has n elements, and the first k of them are what P says of their places; d stands for one that is not there
pub record Filled {A : Type 0} (P : ℕ → A → Type 0) (d : A) (n k : ℕ) (l : List A) : Type 0 where
  pub within : k ≤ n
  pub long : length l ≡ n
  pub each : (t : ℕ) → t < k → P t (get_or l t d)

module _ {A : Type 0} {P : ℕ → A → Type 0} {d : A} {n : ℕ} where
  pub filled_none : {l : List A} → length l ≡ n → Filled P d n 0 l
  filled_none e = record { within = omega arith; long = e; each = λ t h. absurd (omega arith) }

  -- the turn at k stores v there
  pub filled_more : {k : ℕ} {l : List A} {v : A} → Filled P d n k l → k < n → P k v → Filled P d n (k + 1) (set l k v)
  filled_more {k} {l} {v} w h p = record {
    within = omega arith;
    long = length-set l k v ∙ w.long;
    each = stored_more P l d k v (omega (arith, w.long)) w.each p;
  }

  -- all places are filled once none is left
  pub filled_each : {k : ℕ} {l : List A} → Filled P d n k l → n ≤ k → (t : ℕ) → t < n → P t (get_or l t d)
  filled_each w h t l = w.each t (omega arith)

-- so the array is known: what f gives at each place, or the list that has as many elements
pub filled_all : {A : Type 0} {f : ℕ → A} {d : A} {n k : ℕ} {l : List A} → Filled (λ (t : ℕ) (x : A). x ≡ f t) d n k l → n ≤ k → l ≡ listed f n
filled_all {A} {f} {d} {n} {k} {l} w h = listed_all f d l n w.long (filled_each w h)

pub filled_list : {A : Type 0} {d : A} {n k : ℕ} {l m : List A} → Filled (λ (t : ℕ) (x : A). x ≡ get_or m t d) d n k l → n ≤ k → length m ≡ n → l ≡ m
filled_list {A} {d} {n} {k} {l} {m} w h e = ext_get_or d l m (w.long ∙ sym e) (λ t i. filled_each w h t (omega (arith, w.long)))
