-- What is built meets the rules of a table and is shortest, and its queue lists the strings with an entry: step by step each state of the
-- build is one of the breadth-first search of the graph of strings, which ends, since fewer strings are found than there are. Assumes nothing.
use mathlib.Core.Path.{◌≡◌, refl, sym, ap, subst, ◌∙◌}
use mathlib.Core.Logic.{⊎_elim}
use mathlib.Core.Bool.{Bool, true, false}
use Prim.Native.Nat.{ℕ, ◌+◌, ◌-◌, ◌^◌, ◌≤◌, ◌<◌}
use native.Mathlib.Omega.{arith}
use native.Mathlib.Decide.{ℕ_discrete}
use lib.Dec.{T}
use Rattle.bicycle_common.specs.Ranges.{in_turn}
use Rattle.bicycle_common.proofs.Ranges.{lt_or_ge, in_turn_all}
use Rattle.pauli_string.proofs.Range.{four_pos}
use Rattle.native_measurement.specs.Natives.{natives}
use Rattle.natives.specs.Kept.{kept_for}
use Rattle.shortest.specs.Graphs.{Has, Rules, steps}
use Rattle.shortest.specs.Search.{Found, Phase, sources, place, turn, Search}
use Rattle.shortest.specs.Search.{begins, known_source, new_source, searches, takes, passes, finds, leaves}
use Rattle.shortest.proofs.Search.{search_listed, search_found, search_ends}
use Rattle.table.specs.Bytes.{table_length, entry, put, zeros}
use Rattle.table.specs.Entries.{depth, value, identity, KeptFor, is_rotation, Rotation, leads}
use Rattle.table.specs.Rules.{Rule}
use Rattle.table.specs.Plans.{Nonzero, Base, graph, values}
use Rattle.table.proofs.Bytes.{entry_put_same, entry_put_other, entry_zeros, length_zeros}
use Rattle.table.proofs.Entries.{value_depth, value_names}
use Rattle.table.proofs.Rules.{kept_for_law, rule}
use Rattle.discovery.specs.Model.{State, state, discover, begun, seed, attempt, expand, seeded, built}
use Rattle.discovery.specs.States.{Fits, Good, Asks, Moving}
use Rattle.discovery.proofs.Model.{added, discover_new, discover_old, discover_keeps, seed_none, seed_some, attempt_yes, attempt_no, expand_turn, expand_idle}
use Rattle.discovery.proofs.States.{discovers, good_discover, seed_asks, moving_asks, rotate_beside, count_below, good_shallow, listed_moving, begun_good}

-- what the test says of a rotation
rotation_none : (q : ℕ) (f : ℕ → ℕ) (n : ℕ) → is_rotation q f n ≡ false → Rotation q f n → ⊥
rotation_none q f n z r = subst T (sym r.is_rotation_law ∙ z) tt

-- ---- index 0 and the queue

-- index 0 holds 541; the queue holds zeros behind its count, and no string twice
record Tidy (s : State) : Type 0 where
  first : entry s.table 0 ≡ identity
  rest : (i : ℕ) → s.count ≤ i → entry s.queue i ≡ 0
  once : (i j : ℕ) → i < j → j < s.count → entry s.queue i ≡ entry s.queue j → ⊥

begun_tidy_at : (q n : ℕ) → n ≡ table_length q → Tidy (state (put (zeros n) 0 identity) (zeros n) 0)
begun_tidy_at q n z = record {
  first = entry_put_same (zeros n) 0 identity (omega (arith, length_zeros n, z, four_pos q)) (omega arith);
  rest = λ i h. entry_zeros n i;
  once = λ i j l h e. omega arith;
}

begun_tidy : (q : ℕ) → Tidy (begun q)
unfolding begun
begun_tidy q = begun_tidy_at q (table_length q) refl

module _ (q : ℕ) (F : Fits q) (s : State) (g : Good q s) (x d n : ℕ) (a : Asks q s x d n) (t : Tidy s) where
  tidy_new : entry s.table x ≡ 0 → Tidy (added x (value d n) s)
  tidy_new fresh = record {
    first = D.there 0 (λ z. omega (arith, t.first, ap (entry s.table) z, fresh)) ∙ t.first;
    rest = λ i h. entry_put_other s.queue s.count x i (omega arith) ∙ t.rest i (omega arith);
    once = λ i j l h e. ⊎_elim
        (λ k. t.once i j l k (sym (D.older i (omega arith)) ∙ (e ∙ D.older j k)))
        (λ k.
        let z : j ≡ s.count = omega arith in
        listed i (omega arith) (sym (D.older i (omega arith)) ∙ (e ∙ (ap (entry (put s.queue s.count x)) z ∙ D.last))))
        (lt_or_ge j s.count);
  }
    where
      D : Found (entry s.table) (entry s.queue) s.count (entry (put s.table x (value d n))) (entry (put s.queue s.count x))
          (s.count + 1) x (value d n)
      D = discovers q F s g x d n a fresh

      -- what is in the queue has an entry, and x has none
      listed : (i : ℕ) → i < s.count → entry s.queue i ≡ x → ⊥
      listed i l z = (g.counted.listed i l).1 (ap (entry s.table) z ∙ fresh)

  tidy_discover : Tidy (discover x (value d n) s)
  tidy_discover = elim (ℕ_discrete (entry s.table x) 0) [
    | yes z ↦ subst Tidy (sym (discover_new s x (value d n) z)) (tidy_new z)
    | no h ↦ subst Tidy (sym (discover_old s x (value d n) h)) t
  ]

-- ---- each state is one of the search

-- the search of the strings can be in phase ph with what s holds
abbrev At : (q : ℕ) (f : ℕ → ℕ) → ((n : ℕ) → f n < 4 ^ q) → Phase → State → Type 0
At q f small ph s = Search (graph q f small) values natives ph (entry s.table) (entry s.queue) s.count

-- before source n
record Seeding (q : ℕ) (f : ℕ → ℕ) (small : (n : ℕ) → f n < 4 ^ q) (n : ℕ) (s : State) : Type 0 where
  good : Good q s
  tidy : Tidy s
  search : At q f small (sources n) s

-- in the turn of p, which is at place i, before native n
record Turning (q : ℕ) (f : ℕ → ℕ) (small : (n : ℕ) → f n < 4 ^ q) (i p d n : ℕ) (s : State) : Type 0 where
  moving : Moving q p d s
  tidy : Tidy s
  here : i < s.count
  at : entry s.queue i ≡ p
  search : At q f small (turn i n) s

-- before place i: the search is there, or it is through with the queue since an earlier place
record Expanding (q : ℕ) (f : ℕ → ℕ) (small : (n : ℕ) → f n < 4 ^ q) (i : ℕ) (s : State) : Type 0 where
  good : Good q s
  tidy : Tidy s
  reaches : ℕ
  before : reaches ≤ i
  there : reaches < s.count → reaches ≡ i
  search : At q f small (place reaches) s

module _ (q : ℕ) (F : Fits q) (f : ℕ → ℕ) (small : (n : ℕ) → f n < 4 ^ q) where
  -- ---- sources

  begun_search : (n : ℕ) → At q f small (sources 0) (state (put (zeros n) 0 identity) (zeros n) 0)
  begun_search n = begins (λ p i. entry_put_other (zeros n) 0 identity p i.some ∙ entry_zeros n p)

  begun_seeding : Seeding q f small 0 (begun q)
  begun_seeding = record { good = begun_good q; tidy = begun_tidy q; search = unfold begun in begun_search (table_length q) }

  seed_finds : (n : ℕ) (s : State) → n < natives → Seeding q f small n s → (f n ≡ 0 → ⊥) → entry s.table (f n) ≡ 0
      → At q f small (sources (n + 1)) (added (f n) (value 0 (kept_for f (f n))) s)
  seed_finds n s l t h z =
      let m : KeptFor f (f n) (kept_for f (f n)) = kept_for_law f (f n) n l refl in
      new_source t.search (discovers q F s t.good (f n) 0 (kept_for f (f n)) (seed_asks q f n s (small n) l) z)
      (record { string = record { below = small n; some = h }; keeps = m })
      (value_names 0 (kept_for f (f n)) m.below) (value_depth 0 (kept_for f (f n)) m.below) (λ p b. sym b.keeps.measures)

  seed_known : (n : ℕ) (s w : State) → Seeding q f small n s → w ≡ s → ((p : ℕ) → Base q f p n → Has (entry s.table) p)
      → Seeding q f small (n + 1) w
  seed_known n s w t z h =
      subst (Seeding q f small (n + 1)) (sym z) (record { good = t.good; tidy = t.tidy; search = known_source t.search h })

  seed_next : (n : ℕ) → n < natives → (s : State) → Seeding q f small n s → Seeding q f small (n + 1) (seed f n s)
  seed_next n l s t = elim (ℕ_discrete (f n) 0) [
    | yes z ↦ seed_known n s (seed f n s) t (seed_none f n s z) (λ p b. absurd (b.string.some (sym b.keeps.measures ∙ z)))
    | no h ↦ subst (Seeding q f small (n + 1)) (sym (seed_some f n s h)) (discovered h)
  ]
    where
      m : ℕ
      m = kept_for f (f n)

      discovered : (f n ≡ 0 → ⊥) → Seeding q f small (n + 1) (discover (f n) (value 0 (kept_for f (f n))) s)
      discovered h = elim (ℕ_discrete (entry s.table (f n)) 0) [
        | yes z ↦ record {
          good = good_discover q F s (f n) 0 m t.good (seed_asks q f n s (small n) l);
          tidy = tidy_discover q F s t.good (f n) 0 m (seed_asks q f n s (small n) l) t.tidy;
          search = subst (At q f small (sources (n + 1))) (sym (discover_new s (f n) (value 0 m) z)) (seed_finds n s l t h z);
        }
        | no g ↦ seed_known n s (discover (f n) (value 0 m) s) t (discover_old s (f n) (value 0 m) g)
            (λ p b. subst (Has (entry s.table)) b.keeps.measures g)
      ]

  seeded_seeding : Seeding q f small natives (seeded q f)
  seeded_seeding = unfold seeded in in_turn_all (Seeding q f small) natives (seed f) (begun q) seed_next begun_seeding

  pub seeded_good : Good q (seeded q f)
  seeded_good = seeded_seeding.good

  -- ---- a turn

  lead_asks : (p d n : ℕ) (s : State) → n < natives → Moving q p d s → Asks q s (leads q f p n) d n
  lead_asks p d n s l t = moving_asks q F p d (leads q f p n) n s (rotate_beside q F p (f n) n t.small (small n) l) t

  moving_discover : (p d x n : ℕ) (s : State) → Asks q s x d n → Moving q p d s → Moving q p d (discover x (value d n) s)
  moving_discover p d x n s a t =
      let z : entry (discover x (value d n) s).table p ≡ entry s.table p = discover_keeps s x (value d n) p t.has in
      record {
        good = good_discover q F s x d n t.good a;
        small = t.small;
        has = λ w. t.has (sym z ∙ w);
        next = t.next ∙ ap (λ (v : ℕ). depth v + 1) (sym z);
      }

  module _ (i p d n : ℕ) (l : n < natives) (s : State) (t : Turning q f small i p d n s) where
    x_is : leads q f (entry s.queue i) n ≡ leads q f p n
    x_is = ap (λ (p : ℕ). leads q f p n) t.at

    asks : Asks q s (leads q f p n) d n
    asks = lead_asks p d n s l t.moving

    turn_passes : (w : State) → w ≡ s → (Rotation q f n → Has (entry s.table) (leads q f p n)) → Turning q f small i p d (n + 1) w
    turn_passes w z h = subst (Turning q f small i p d (n + 1)) (sym z) (record {
      moving = t.moving;
      tidy = t.tidy;
      here = t.here;
      at = t.at;
      search = passes t.search (λ r. subst (Has (entry s.table)) (sym x_is) (h r));
    })

    turn_finds : Rotation q f n → entry s.table (leads q f p n) ≡ 0 → Turning q f small i p d (n + 1) (discover (leads q f p n) (value d n) s)
    turn_finds r z = record {
      moving = moving_discover p d (leads q f p n) n s asks t.moving;
      tidy = tidy_discover q F s t.moving.good (leads q f p n) d n asks t.tidy;
      here = subst (λ (w : State). i < w.count) (sym new) (omega (arith, t.here));
      at = ap (λ (w : State). entry w.queue i) new ∙ (D.older i t.here ∙ t.at);
      search = subst (At q f small (turn i (n + 1))) (sym new) (finds t.search r found (value_names d n l) deeper);
    }
      where
        new : discover (leads q f p n) (value d n) s ≡ added (leads q f p n) (value d n) s
        new = discover_new s (leads q f p n) (value d n) z

        D : Found (entry s.table) (entry s.queue) s.count (entry (put s.table (leads q f p n) (value d n)))
            (entry (put s.queue s.count (leads q f p n))) (s.count + 1) (leads q f p n) (value d n)
        D = discovers q F s t.moving.good (leads q f p n) d n asks z

        found : Found (entry s.table) (entry s.queue) s.count (entry (put s.table (leads q f p n) (value d n)))
            (entry (put s.queue s.count (leads q f p n))) (s.count + 1) (leads q f (entry s.queue i) n) (value d n)
        found = subst
            (λ (y : ℕ). Found (entry s.table) (entry s.queue) s.count (entry (put s.table (leads q f p n) (value d n)))
            (entry (put s.queue s.count (leads q f p n))) (s.count + 1) y (value d n))
            (sym x_is) D

        deeper : depth (value d n) ≡ depth (entry s.table (entry s.queue i)) + 1
        deeper = value_depth d n l ∙ (t.moving.next ∙ ap (λ (p : ℕ). depth (entry s.table p) + 1) (sym t.at))

    turn_next : Turning q f small i p d (n + 1) (attempt q f p d n s)
    turn_next = go (is_rotation q f n) refl
      where
        discovered : Rotation q f n → Turning q f small i p d (n + 1) (discover (leads q f p n) (value d n) s)
        discovered r = elim (ℕ_discrete (entry s.table (leads q f p n)) 0) [
          | yes z ↦ turn_finds r z
          | no h ↦ turn_passes (discover (leads q f p n) (value d n) s) (discover_old s (leads q f p n) (value d n) h) (λ _. h)
        ]

        go : (b : Bool) → is_rotation q f n ≡ b → Turning q f small i p d (n + 1) (attempt q f p d n s)
        go true z =
            subst (Turning q f small i p d (n + 1)) (sym (attempt_yes q f p d n s z)) (discovered (record { below = l; is_rotation_law = z }))
        go false z =
            turn_passes (attempt q f p d n s) (attempt_no q f p d n s z) (λ r. absurd (rotation_none q f n z r))

  -- ---- the places of the queue

  expand_next : (i : ℕ) (s : State) → Expanding q f small i s → Expanding q f small (i + 1) (expand q f i s)
  expand_next i s t = ⊎_elim
      (λ l. subst (Expanding q f small (i + 1)) (sym (expand_turn q f i s l)) (turned l))
      (λ l. subst (Expanding q f small (i + 1)) (sym (expand_idle q f i s l)) (idle l))
      (lt_or_ge i s.count)
    where
      p : ℕ
      p = entry s.queue i

      d : ℕ
      d = depth (entry s.table p) + 1

      begun : i < s.count → Turning q f small i p d 0 s
      begun l = record {
        moving = listed_moving q s i p t.good l refl;
        tidy = t.tidy;
        here = l;
        at = refl;
        search = takes (subst (λ (j : ℕ). At q f small (place j) s) (t.there (omega (arith, t.before))) t.search) l;
      }

      ended : (w : State) → Turning q f small i p d natives w → Expanding q f small (i + 1) w
      ended w e = record {
        good = e.moving.good;
        tidy = e.tidy;
        reaches = i + 1;
        before = omega arith;
        there = λ h. refl;
        search = leaves e.search;
      }

      turned : i < s.count → Expanding q f small (i + 1) (in_turn natives (attempt q f p d) s)
      turned l =
          ended (in_turn natives (attempt q f p d) s)
          (in_turn_all (Turning q f small i p d) natives (attempt q f p d) s (λ n h w. turn_next i p d n h w) (begun l))

      idle : s.count ≤ i → Expanding q f small (i + 1) s
      idle l = record {
        good = t.good;
        tidy = t.tidy;
        reaches = t.reaches;
        before = omega (arith, t.before);
        there = λ h. omega (arith, t.there h);
        search = t.search;
      }

  built_expanding : Expanding q f small (4 ^ q) (built q f)
  built_expanding = unfold built in
      in_turn_all (Expanding q f small) (4 ^ q) (expand q f) (seeded q f) (λ i l s. expand_next i s) (record {
        good = seeded_good;
        tidy = seeded_seeding.tidy;
        reaches = 0;
        before = omega arith;
        there = λ h. refl;
        search = searches seeded_seeding.search;
      })

  -- ---- what is built

  pub built_good : Good q (built q f)
  built_good = built_expanding.good

  pub built_identity : entry (built q f).table 0 ≡ identity
  built_identity = built_expanding.tidy.first

  -- the search is through with the queue
  through : (built q f).count ≤ built_expanding.reaches
  through = ⊎_elim
      (λ l. absurd (omega (arith, built_expanding.there l, count_below q (built q f) built_good)))
      (λ l. l)
      (lt_or_ge built_expanding.reaches (built q f).count)

  pub built_rules : Rules (graph q f small) (steps (graph q f small)) values (entry (built q f).table)
  built_rules =
      search_ends (graph q f small) values natives (λ n r. r.below) (λ p n b. b.keeps.below)
      (entry (built q f).table) (entry (built q f).queue) (built q f).count built_expanding.reaches built_expanding.search through

  pub built_rule : (p : ℕ) → p < 4 ^ q → Rule q f (entry (built q f).table) p
  built_rule = rule q f small (entry (built q f).table) built_identity built_rules

  pub built_depth : (p : ℕ) → p < 4 ^ q → depth (entry (built q f).table p) ≤ 4 ^ (q - 1) - 1
  built_depth p l = elim (ℕ_discrete (entry (built q f).table p) 0) [
    | yes z ↦ omega (arith, z)
    | no h ↦ omega (arith, good_shallow q (built q f) built_good p l h)
  ]

  pub built_native : (n : ℕ) → n < natives → (f n ≡ 0 → ⊥) → entry (built q f).table (f n) ≡ kept_for f (f n) + 1
  built_native n l h =
      let r = (built_rule (f n) (small n)).native_string_law h (kept_for f (f n)) (kept_for_law f (f n) n l refl) in
      omega (arith, r.0, r.1)

  -- ---- the queue of what is built

  -- each place before the count holds a string with an entry
  pub built_queue_front : (i : ℕ) → i < (built q f).count
      → Nonzero q (entry (built q f).queue i) × Has (entry (built q f).table) (entry (built q f).queue i)
  built_queue_front =
      search_listed (graph q f small) values natives (place built_expanding.reaches)
      (entry (built q f).table) (entry (built q f).queue) (built q f).count built_expanding.search

  -- each string with an entry is in it
  pub built_queue_all : (p : ℕ) → Nonzero q p → Has (entry (built q f).table) p
      → (i : ℕ) × (i < (built q f).count) × (entry (built q f).queue i ≡ p)
  built_queue_all =
      search_found (graph q f small) values natives (place built_expanding.reaches)
      (entry (built q f).table) (entry (built q f).queue) (built q f).count built_expanding.search

  -- no string is in it twice
  pub built_queue_once : (i j : ℕ) → i < j → j < (built q f).count → entry (built q f).queue i ≡ entry (built q f).queue j → ⊥
  built_queue_once = built_expanding.tidy.once

  -- then zeros
  pub built_queue_rest : (i : ℕ) → (built q f).count ≤ i → entry (built q f).queue i ≡ 0
  built_queue_rest = built_expanding.tidy.rest
