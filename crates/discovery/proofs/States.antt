-- A discovery keeps a build in range: the queue has room, and the value fits into four bytes, since a string without an entry is still to be
-- counted. So do discoveries in turn. Assumes nothing.
use mathlib.Core.Path.{◌≡◌, refl, sym, ap, subst, ◌∙◌}
use Prim.Native.Nat.{ℕ, zero, suc, ◌+◌, ◌-◌, ◌^◌, ◌≤◌, ◌<◌}
use native.Mathlib.Omega.{arith}
use native.Mathlib.Decide.{ℕ_discrete}
use Rattle.bicycle_common.specs.Ranges.{in_turn}
use Rattle.pauli_string.specs.Strings.{pivot_bits, rotate}
use Rattle.pauli_string.proofs.Range.{four_pos}
use Rattle.pauli_string.proofs.Pivot.{rotate_string, rotate_pivot_bits}
use Rattle.native_measurement.specs.Natives.{natives}
use Rattle.natives.specs.Kept.{kept_for}
use Rattle.natives.proofs.Kept.{keeper_for}
use Rattle.shortest.specs.Graphs.{Has}
use Rattle.shortest.specs.Search.{Found}
use Rattle.shortest.specs.Counts.{in_class}
use Rattle.shortest.proofs.Counts.{entries_below, room, class_room, class_grows, counted_more, counted_start, shallow}
use Rattle.table.specs.Bytes.{table_length, entry, put, zeros}
use Rattle.table.specs.Entries.{depth, value, identity}
use Rattle.table.specs.Answers.{entries}
use Rattle.table.proofs.Entries.{value_some, value_depth, value_lt}
use Rattle.table.proofs.Bytes.{length_put, entry_put_same, entry_put_other, entry_zeros, length_zeros}
use Rattle.discovery.specs.Model.{State, state, discover, begun, seed}
use Rattle.discovery.proofs.Model.{added, discover_new, discover_old, discover_keeps, seed_none, seed_some}
use Rattle.discovery.specs.States.{classes, Fits, entries_alike, Good, Asks, Moving, Beside}
use Rattle.discovery.specs.Tried.{tried}

module _ (q : ℕ) (F : Fits q) (s : State) (g : Good q s) (x d n : ℕ) (a : Asks q s x d n) (fresh : entry s.table x ≡ 0) where
  -- the queue has room for one more
  pub count_room : s.count + 1 < 4 ^ q
  unfolding classes
  count_room = omega (arith, g.counted.counted, room (classes q) (entry s.table) x a.small fresh)

  -- so have the depths
  pub depth_room : d < 4 ^ (q - 1)
  unfolding classes
  depth_room = omega (arith, a.low, class_room (classes q) (entry s.table) x a.small fresh)

  pub value_fits : value d n < 2 ^ 32
  value_fits = omega (arith, value_lt d n (4 ^ (q - 1)) a.native_below depth_room, F.values)

  -- the discovery, in the words of the search
  pub discovers : Found (entry s.table) (entry s.queue) s.count (entry (put s.table x (value d n))) (entry (put s.queue s.count x)) (s.count + 1) x (value d n)
  discovers = record {
    fresh = fresh;
    some = value_some d n;
    count = refl;
    last = entry_put_same s.queue s.count x (omega (arith, count_room, g.queue_long)) (omega (arith, a.small, F.strings));
    older = λ i h. entry_put_other s.queue s.count x i (omega arith);
    here = entry_put_same s.table x (value d n) (omega (arith, a.small, g.table_long)) value_fits;
    there = λ p h. entry_put_other s.table x (value d n) p h;
  }

  good_new : Good q (added x (value d n) s)
  good_new = record {
    table_long = length_put s.table x (value d n) ∙ g.table_long;
    queue_long = length_put s.queue s.count x ∙ g.queue_long;
    counted = unfold classes in
        counted_more (classes q) depth (entry s.table) (entry s.queue) s.count (entry (put s.table x (value d n))) (entry (put s.queue s.count x)) (s.count + 1) x (value d n)
        discovers a.small (omega (arith, value_depth d n a.native_below, a.low)) g.counted;
  }

  alike_grows : (y : ℕ) → entries_alike q s y ≤ entries_alike q (added x (value d n) s) y
  alike_grows y =
      class_grows (classes q) (entry s.table) (entry s.queue) s.count (entry (put s.table x (value d n))) (entry (put s.queue s.count x)) (s.count + 1) x (value d n)
      discovers (pivot_bits q y)

module _ (q : ℕ) (F : Fits q) where
  pub good_discover : (s : State) (x d n : ℕ) → Good q s → Asks q s x d n → Good q (discover x (value d n) s)
  good_discover s x d n g a = elim (ℕ_discrete (entry s.table x) 0) [
    | yes z ↦ subst (Good q) (sym (discover_new s x (value d n) z)) (good_new q F s g x d n a z)
    | no f ↦ subst (Good q) (sym (discover_old s x (value d n) f)) g
  ]

  -- what a discovery may ask, it may ask after another
  asks_after : (s : State) (x d n y c m : ℕ) → Good q s → Asks q s x d n → Asks q s y c m → Asks q (discover x (value d n) s) y c m
  asks_after s x d n y c m g a b = elim (ℕ_discrete (entry s.table x) 0) [
    | yes z ↦ subst (λ (w : State). Asks q w y c m) (sym (discover_new s x (value d n) z))
        (record { small = b.small; native_below = b.native_below; low = omega (arith, b.low, alike_grows q F s g x d n a z y) })
    | no f ↦ subst (λ (w : State). Asks q w y c m) (sym (discover_old s x (value d n) f)) b
  ]

  -- ---- discoveries in turn

  pub tried_asks : (x m : ℕ → ℕ) (d k : ℕ) (s : State) → Good q s → ((j : ℕ) → j < k → Asks q s (x j) d (m j))
      → Good q (in_turn k (tried x m d) s) × ((y c n : ℕ) → Asks q s y c n → Asks q (in_turn k (tried x m d) s) y c n)
  unfolding in_turn
  tried_asks x m d zero s g h = (g, λ y c n a. a)
  tried_asks x m d (suc k) s g h =
      let r = tried_asks x m d k s g (λ j l. h j (omega arith)) in
      let a = r.1 (x k) d (m k) (h k (omega arith)) in
      (good_discover (in_turn k (tried x m d) s) (x k) d (m k) r.0 a, λ y c n b. asks_after (in_turn k (tried x m d) s) (x k) d (m k) y c n r.0 a (r.1 y c n b))

  -- what is beside p may be asked for in the turn of p
  pub moving_asks : (p d x n : ℕ) (s : State) → Beside q p x n → Moving q p d s → Asks q s x d n
  unfolding classes
  moving_asks p d x n s b t = record {
    small = b.small;
    native_below = b.native_below;
    low = omega (arith, t.next, t.good.counted.deep p t.small t.has, ap (in_class (classes q) (entry s.table)) b.alike);
  }

  -- a rotation leads to a string beside p
  pub rotate_beside : (p r n : ℕ) → p < 4 ^ q → r < 4 ^ q → n < natives → Beside q p (rotate q p r) n
  rotate_beside p r n hp hr hn = record { small = rotate_string q p r hp hr; native_below = hn; alike = rotate_pivot_bits q p r F.some }

-- what has an entry keeps it
pub tried_keeps : (x m : ℕ → ℕ) (d k p : ℕ) (s : State) → Has (entry s.table) p → entry (in_turn k (tried x m d) s).table p ≡ entry s.table p
unfolding in_turn
tried_keeps x m d zero p s h = refl
tried_keeps x m d (suc k) p s h =
    let e : entry (in_turn k (tried x m d) s).table p ≡ entry s.table p = tried_keeps x m d k p s h in
    discover_keeps (in_turn k (tried x m d) s) (x k) (value d (m k)) p (λ z. h (sym e ∙ z)) ∙ e

-- where all have entries nothing is done
pub tried_idle : (x m : ℕ → ℕ) (d k : ℕ) (s : State) → ((j : ℕ) → j < k → Has (entry s.table) (x j)) → in_turn k (tried x m d) s ≡ s
unfolding in_turn
tried_idle x m d zero s h = refl
tried_idle x m d (suc k) s h =
    let e : in_turn k (tried x m d) s ≡ s = tried_idle x m d k s (λ j l. h j (omega arith)) in
    ap (discover (x k) (value d (m k))) e ∙ discover_old s (x k) (value d (m k)) (h k (omega arith))

-- ---- good states

pub count_below : (q : ℕ) (s : State) → Good q s → s.count < 4 ^ q
unfolding classes
count_below q s g = omega (arith, g.counted.counted, entries_below (entry s.table) (4 ^ q))

-- the entries are the identity and the strings in the queue
pub good_counts : (q : ℕ) (s : State) → Good q s → s.count + 1 ≡ entries q s.table
unfolding classes
good_counts q s g = g.counted.counted

-- no depth passes the number of strings of one pivot letter
pub good_shallow : (q : ℕ) (s : State) → Good q s → (p : ℕ) → p < 4 ^ q → Has (entry s.table) p → depth (entry s.table p) < 4 ^ (q - 1)
unfolding classes
good_shallow q s g p h e = shallow (classes q) depth (entry s.table) (entry s.queue) s.count g.counted p h e

-- a string in the queue is one to have its turn
pub listed_moving : (q : ℕ) (s : State) (i p : ℕ) → Good q s → i < s.count → p ≡ entry s.queue i → Moving q p (depth (entry s.table p) + 1) s
unfolding classes
listed_moving q s i p g l z =
    subst (λ (p : ℕ). Moving q p (depth (entry s.table p) + 1) s) (sym z)
    (record { good = g; small = (g.counted.listed i l).0; has = (g.counted.listed i l).1; next = refl })

-- the start
begun_at : (q n : ℕ) → n ≡ table_length q → Good q (state (put (zeros n) 0 identity) (zeros n) 0)
unfolding classes
begun_at q n z = record {
  table_long = length_put (zeros n) 0 identity ∙ (length_zeros n ∙ z);
  queue_long = length_zeros n ∙ z;
  counted =
      counted_start (classes q) depth (entry (zeros n)) (entry (put (zeros n) 0 identity)) (entry (zeros n)) identity
      (entry_zeros n) (entry_put_same (zeros n) 0 identity (omega (arith, length_zeros n, z, four_pos q)) (omega arith)) (λ y. omega arith) (omega arith) (λ p h. entry_put_other (zeros n) 0 identity p h) (four_pos q);
}

pub begun_good : (q : ℕ) → Good q (begun q)
unfolding begun
begun_good q = begun_at q (table_length q) refl

-- ---- one source

pub seed_asks : (q : ℕ) (f : ℕ → ℕ) (n : ℕ) (s : State) → f n < 4 ^ q → n < natives → Asks q s (f n) 0 (kept_for f (f n))
seed_asks q f n s h l = record { small = h; native_below = (keeper_for f n l).below; low = omega arith }

pub seed_good : (q : ℕ) (F : Fits q) (f : ℕ → ℕ) (n : ℕ) (s : State) → f n < 4 ^ q → n < natives → Good q s → Good q (seed f n s)
seed_good q F f n s h l g = elim (ℕ_discrete (f n) 0) [
  | yes z ↦ subst (Good q) (sym (seed_none f n s z)) g
  | no z ↦ subst (Good q) (sym (seed_some f n s z)) (good_discover q F s (f n) 0 (kept_for f (f n)) g (seed_asks q f n s h l))
]
