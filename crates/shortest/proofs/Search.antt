-- A breadth-first search that is through with its queue ends in labels that meet the local rules, where every step costs 1. By induction
-- over the search: costs are sorted along the queue and span at most one step from the place that has its turn. Assumes nothing.
use mathlib.Core.Path.{◌≡◌, sym, ap, subst, ◌∙◌}
use mathlib.Core.Logic.{◌⊎◌, inl, inr, ⊎_elim}
use Prim.Native.Nat.{ℕ, ◌+◌, ◌≤◌, ◌<◌}
use native.Mathlib.Decide.{ℕ_discrete}
use native.Mathlib.Omega.{arith}
use Rattle.bicycle_common.proofs.Ranges.{lt_or_ge}
use Rattle.shortest.specs.Graphs.{Graph, Labels, Has, Made, Rules, steps}
use Rattle.shortest.specs.Search.{Found, Phase, sources, place, turn, Search}
use Rattle.shortest.specs.Search.{begins, known_source, new_source, searches, takes, passes, finds, leaves}

less_cases : (i k : ℕ) → i < k + 1 → (i < k) ⊎ (i ≡ k)
less_cases i k h = ⊎_elim (λ l. inl l) (λ l. inr (omega arith)) (lt_or_ge i k)

-- ---- a discovery

module _ (e q : ℕ → ℕ) (c : ℕ) (e' q' : ℕ → ℕ) (c' x v : ℕ) (f : Found e q c e' q' c' x v) where
  -- a label that was there stays
  pub stays : (p : ℕ) → Has e p → e' p ≡ e p
  stays p h = f.there p (λ z. h (ap e z ∙ f.fresh))

  pub stays_has : (p : ℕ) → Has e p → Has e' p
  stays_has p h z = h (sym (stays p h) ∙ z)

  -- what was discovered has a label
  pub found_has : Has e' x
  found_has z = f.some (sym f.here ∙ z)

  pub queue_cases : (i : ℕ) → i < c' → ((i < c) × (q' i ≡ q i)) ⊎ ((i ≡ c) × (q' i ≡ x))
  queue_cases i h = ⊎_elim (λ l. inl (l, f.older i l)) (λ z. inr (z, ap q' z ∙ f.last)) (less_cases i c (omega (arith, f.count)))

  pub label_cases : (p : ℕ) → Has e' p → (p ≡ x) ⊎ Has e p
  label_cases p h = elim (ℕ_discrete p x) [ yes z ↦ inl z | no g ↦ inr (λ z. h (f.there p g ∙ z)) ]

-- ---- what holds in each phase

-- of every label and place of the queue
pub record Sound (G : Graph) (L : Labels) (e q : ℕ → ℕ) (c : ℕ) : Type 0 where
  pub listed : (i : ℕ) → i < c → G.In (q i) × Has e (q i)
  pub found : (p : ℕ) → G.In p → Has e p → (i : ℕ) × (i < c) × (q i ≡ p)
  pub made : (p : ℕ) → G.In p → Has e p → Made G (steps G) L e p

-- while the sources are tried: all costs are 0
pub record Seeded (G : Graph) (L : Labels) (e q : ℕ → ℕ) (c k : ℕ) : Type 0 where
  pub sound : Sound G L e q c
  pub flat : (p : ℕ) → G.In p → Has e p → L.cost (e p) ≡ 0
  pub all : (p n : ℕ) → G.Source p n → n < k → Has e p

-- step n from p leads to a label that costs at most one step more
abbrev pub Tried : Graph → Labels → (ℕ → ℕ) → ℕ → ℕ → Type 0
Tried G L e p n = Has e (G.lead p n) × (L.cost (e (G.lead p n)) ≤ L.cost (e p) + 1)

-- before the turn of a place
pub record Searched (G : Graph) (L : Labels) (bound : ℕ) (e q : ℕ → ℕ) (c at : ℕ) : Type 0 where
  pub sound : Sound G L e q c
  pub seeds : (p n : ℕ) → G.Source p n → n < bound → Has e p × (L.cost (e p) ≡ 0)
  pub sorted : (i j : ℕ) → i ≤ j → j < c → L.cost (e (q i)) ≤ L.cost (e (q j))
  pub close : (j : ℕ) → at < c → j < c → L.cost (e (q j)) ≤ L.cost (e (q at)) + 1
  pub done : (i n : ℕ) → i < at → i < c → G.Step n → n < bound → Tried G L e (q i) n

-- in the turn of a place, before step k
pub record Turned (G : Graph) (L : Labels) (bound : ℕ) (e q : ℕ → ℕ) (c at k : ℕ) : Type 0 where
  pub here : at < c
  pub searched : Searched G L bound e q c at
  pub tried : (n : ℕ) → n < k → G.Step n → Tried G L e (q at) n

-- all of it, by the phase
abbrev pub Holds : Graph → Labels → ℕ → Phase → (ℕ → ℕ) → (ℕ → ℕ) → ℕ → Type 0
Holds G L bound (sources k) e q c = Seeded G L e q c k
Holds G L bound (place i) e q c = Searched G L bound e q c i
Holds G L bound (turn i k) e q c = Turned G L bound e q c i k

-- ---- each phase leads to the next

module _ (G : Graph) (L : Labels) (bound : ℕ) where
  -- a discovery of a vertex whose label is made up
  module _ (e q : ℕ → ℕ) (c : ℕ) (e' q' : ℕ → ℕ) (c' x v : ℕ) (f : Found e q c e' q' c' x v) where
    made_kept : (p n : ℕ) → Has e (G.lead p n) → L.cost (e p) ≡ L.cost (e (G.lead p n)) + 1 → e' p ≡ e p
        → L.cost (e' p) ≡ L.cost (e' (G.lead p n)) + 1
    made_kept p n h m z = let y : e' (G.lead p n) ≡ e (G.lead p n) = stays e q c e' q' c' x v f (G.lead p n) h in rw (z, y) m

    made_old : (p : ℕ) → Has e p → Made G (steps G) L e p → Made G (steps G) L e' p
    made_old p h (n, names, m) =
        let z : e' p ≡ e p = stays e q c e' q' c' x v f p h in (
          n,
          subst (λ (w : ℕ). L.Names w n) (sym z) names,
          ⊎_elim
              (λ a. inl (a.0, ap L.cost z ∙ a.1))
              (λ a. inr (a.0, stays_has e q c e' q' c' x v f (G.lead p n) a.1, made_kept p n a.1 a.2 z))
              m,
        )

    sound_more : Sound G L e q c → G.In x → Made G (steps G) L e' x → Sound G L e' q' c'
    sound_more s inx how = record {
      listed = λ i h. ⊎_elim
          (λ l.
          let o = s.listed i l.0 in
          subst (λ (p : ℕ). G.In p × Has e' p) (sym l.1) (o.0, stays_has e q c e' q' c' x v f (q i) o.1))
          (λ l. subst (λ (p : ℕ). G.In p × Has e' p) (sym l.1) (inx, found_has e q c e' q' c' x v f))
          (queue_cases e q c e' q' c' x v f i h);
      found = λ p ip h. ⊎_elim
          (λ z. (c, omega (arith, f.count), f.last ∙ sym z))
          (λ g. let o = s.found p ip g in (o.0, omega (arith, f.count, o.1), f.older o.0 o.1 ∙ o.2))
          (label_cases e q c e' q' c' x v f p h);
      made = λ p ip h. ⊎_elim
          (λ z. subst (Made G (steps G) L e') (sym z) how)
          (λ g. made_old p g (s.made p ip g))
          (label_cases e q c e' q' c' x v f p h);
    }

  -- ---- sources

  seeds_begin : (e q : ℕ → ℕ) → ((p : ℕ) → G.In p → e p ≡ 0) → Seeded G L e q 0 0
  seeds_begin e q z = record {
    sound = record {
      listed = λ i h. absurd (omega arith);
      found = λ p ip h. absurd (h (z p ip));
      made = λ p ip h. absurd (h (z p ip));
    };
    flat = λ p ip h. absurd (h (z p ip));
    all = λ p n s l. absurd (omega arith);
  }

  seed_known : (e q : ℕ → ℕ) (c k : ℕ) → Seeded G L e q c k → ((p : ℕ) → G.Source p k → Has e p) → Seeded G L e q c (k + 1)
  seed_known e q c k s h = record {
    sound = s.sound;
    flat = s.flat;
    all = λ p n m l. ⊎_elim (λ w. s.all p n m w) (λ z. h p (subst (G.Source p) z m)) (less_cases n k l);
  }

  seed_new : (e q e' q' : ℕ → ℕ) (c c' k x v m : ℕ) → Seeded G L e q c k → Found e q c e' q' c' x v → G.Source x m
      → L.Names v m → L.cost v ≡ 0 → ((p : ℕ) → G.Source p k → p ≡ x) → Seeded G L e' q' c' (k + 1)
  seed_new e q e' q' c c' k x v m s f sx names free only = record {
    sound = sound_more e q c e' q' c' x v f s.sound (G.source_in x m sx)
        (m, subst (λ (w : ℕ). L.Names w m) (sym f.here) names, inl (sx, ap L.cost f.here ∙ free));
    flat = λ p ip h. ⊎_elim
        (λ z. ap (λ (p : ℕ). L.cost (e' p)) z ∙ (ap L.cost f.here ∙ free))
        (λ g. ap L.cost (stays e q c e' q' c' x v f p g) ∙ s.flat p ip g)
        (label_cases e q c e' q' c' x v f p h);
    all = λ p n w l. ⊎_elim
        (λ y. stays_has e q c e' q' c' x v f p (s.all p n w y))
        (λ z. subst (Has e') (sym (only p (subst (G.Source p) z w))) (found_has e q c e' q' c' x v f))
        (less_cases n k l);
  }

  seeds_end : (e q : ℕ → ℕ) (c : ℕ) → Seeded G L e q c bound → Searched G L bound e q c 0
  seeds_end e q c s = record {
    sound = s.sound;
    seeds = λ p n m l. let h : Has e p = s.all p n m l in (h, s.flat p (G.source_in p n m) h);
    sorted = λ i j l h. omega (arith, at_place i (omega arith));
    close = λ j h l. omega (arith, at_place j l);
    done = λ i n l h r b. absurd (omega arith);
  }
    where
      at_place : (i : ℕ) → i < c → L.cost (e (q i)) ≡ 0
      at_place i h = let a = s.sound.listed i h in s.flat (q i) a.0 a.1

  -- ---- a turn

  turn_begins : (e q : ℕ → ℕ) (c at : ℕ) → Searched G L bound e q c at → at < c → Turned G L bound e q c at 0
  turn_begins e q c at s h = record { here = h; searched = s; tried = λ n l r. absurd (omega arith) }

  turn_passes : (e q : ℕ → ℕ) (c at k : ℕ) → Turned G L bound e q c at k → (G.Step k → Has e (G.lead (q at) k))
      → Turned G L bound e q c at (k + 1)
  turn_passes e q c at k t h = record {
    here = t.here;
    searched = t.searched;
    tried = λ n l r. ⊎_elim
        (λ m. t.tried n m r)
        (λ z. subst (Tried G L e (q at)) (sym z) (now (subst G.Step z r)))
        (less_cases n k l);
  }
    where
      -- a labelled vertex has a place, and no place costs more than one step more
      now : G.Step k → Tried G L e (q at) k
      now r =
          let s = t.searched.sound in
          let o = s.found (G.lead (q at) k) (G.lead_in (q at) k (s.listed at t.here).0 r) (h r) in
          (h r, omega (arith, t.searched.close o.0 t.here o.1, ap (λ (p : ℕ). L.cost (e p)) o.2))

  module _ (e q e' q' : ℕ → ℕ) (c c' at k v : ℕ) (t : Turned G L bound e q c at k) (r : G.Step k)
      (f : Found e q c e' q' c' (G.lead (q at) k) v)
      (names : L.Names v k) (one_more : L.cost v ≡ L.cost (e (q at)) + 1) where
    in_at : G.In (q at)
    in_at = (t.searched.sound.listed at t.here).0

    kept : (p : ℕ) → Has e p → e' p ≡ e p
    kept p h = stays e q c e' q' c' (G.lead (q at) k) v f p h

    -- costs at the queue's places
    cost_new : L.cost (e' (G.lead (q at) k)) ≡ L.cost (e (q at)) + 1
    cost_new = ap L.cost f.here ∙ one_more

    old_place : (i : ℕ) → i < c → L.cost (e' (q' i)) ≡ L.cost (e (q i))
    old_place i h = ap L.cost (ap e' (f.older i h) ∙ kept (q i) (t.searched.sound.listed i h).1)

    new_place : (i : ℕ) → i ≡ c → L.cost (e' (q' i)) ≡ L.cost (e (q at)) + 1
    new_place i z = ap (λ (p : ℕ). L.cost (e' p)) (ap q' z ∙ f.last) ∙ cost_new

    sound_found : Sound G L e' q' c'
    sound_found =
        let b : G.lead (G.lead (q at) k) k ≡ q at = G.back (q at) k in_at r in
        let h : Has e (q at) = (t.searched.sound.listed at t.here).1 in
        let z : e' (G.lead (G.lead (q at) k) k) ≡ e (q at) = ap e' b ∙ kept (q at) h in
        sound_more e q c e' q' c' (G.lead (q at) k) v f t.searched.sound (G.lead_in (q at) k in_at r) (
          k,
          subst (λ (w : ℕ). L.Names w k) (sym f.here) names,
          inr (r, (λ y. h (sym z ∙ y)), cost_new ∙ ap (λ (w : ℕ). L.cost w + 1) (sym z)),
        )

    sorted_found : (i j : ℕ) → i ≤ j → j < c' → L.cost (e' (q' i)) ≤ L.cost (e' (q' j))
    sorted_found i j l h =
        ⊎_elim
        (λ jc. omega (arith, old_place i (omega arith), old_place j jc, t.searched.sorted i j l jc))
        at_last
        (less_cases j c (omega (arith, f.count)))
      where
        at_last : j ≡ c → L.cost (e' (q' i)) ≤ L.cost (e' (q' j))
        at_last jc =
            ⊎_elim
            (λ ic. omega (arith, old_place i ic, new_place j jc, t.searched.close i t.here ic))
            (λ ic. omega (arith, new_place i ic, new_place j jc))
            (less_cases i c (omega arith))

    close_found : (j : ℕ) → at < c' → j < c' → L.cost (e' (q' j)) ≤ L.cost (e' (q' at)) + 1
    close_found j _ h =
        ⊎_elim
        (λ jc. omega (arith, old_place at t.here, old_place j jc, t.searched.close j t.here jc))
        (λ jc. omega (arith, old_place at t.here, new_place j jc))
        (less_cases j c (omega (arith, f.count)))

    -- what a turn showed of a place and a step stays
    tried_kept : (i n : ℕ) → i < c → Tried G L e (q i) n → Tried G L e' (q' i) n
    tried_kept i n h o =
        let z : e' (G.lead (q' i) n) ≡ e (G.lead (q i) n) = ap (λ (p : ℕ). e' (G.lead p n)) (f.older i h) ∙ kept (G.lead (q i) n) o.0 in
        ((λ w. o.0 (sym z ∙ w)), omega (arith, ap L.cost z, o.1, old_place i h))

    tried_now : Tried G L e' (q' at) k
    tried_now =
        let z : G.lead (q' at) k ≡ G.lead (q at) k = ap (λ (p : ℕ). G.lead p k) (f.older at t.here) in (
          subst (Has e') (sym z) (found_has e q c e' q' c' (G.lead (q at) k) v f),
          omega (arith, ap (λ (p : ℕ). L.cost (e' p)) z, cost_new, old_place at t.here),
        )

    turn_finds : Turned G L bound e' q' c' at (k + 1)
    turn_finds = record {
      here = omega (arith, f.count, t.here);
      searched = record {
        sound = sound_found;
        seeds = λ p n m l.
            let o = t.searched.seeds p n m l in
            (stays_has e q c e' q' c' (G.lead (q at) k) v f p o.0, ap L.cost (kept p o.0) ∙ o.1);
        sorted = sorted_found;
        close = close_found;
        done = λ i n l _ rn b. let ic : i < c = omega (arith, t.here) in tried_kept i n ic (t.searched.done i n l ic rn b);
      };
      tried = λ n l rn. ⊎_elim
          (λ m. tried_kept at n t.here (t.tried n m rn))
          (λ z. subst (Tried G L e' (q' at)) (sym z) tried_now)
          (less_cases n k l);
    }

  turn_ends : (e q : ℕ → ℕ) (c at : ℕ) → Turned G L bound e q c at bound → Searched G L bound e q c (at + 1)
  turn_ends e q c at t = record {
    sound = t.searched.sound;
    seeds = t.searched.seeds;
    sorted = t.searched.sorted;
    close = λ j h l. omega (arith, t.searched.close j t.here l, t.searched.sorted at (at + 1) (omega arith) h);
    done = λ i n l h r b. ⊎_elim
        (λ m. t.searched.done i n m h r b)
        (λ z. subst (λ (i : ℕ). Tried G L e (q i) n) (sym z) (t.tried n b r))
        (less_cases i at l);
  }

  -- ---- the whole search

  -- what holds in a phase holds of every search that can be in it
  pub invariant : (ph : Phase) (e q : ℕ → ℕ) (c : ℕ) → Search G L bound ph e q c → Holds G L bound ph e q c
  invariant ph e q c (begins z) = seeds_begin e q z
  invariant ph e q c (known_source {k = k} s h) = seed_known e q c k (invariant (sources k) e q c s) h
  invariant ph e q c (new_source {e = e₀} {q = q₀} {c = c₀} {k = k} {x = x} {v = v} {m = m} s f sx names free only) =
      seed_new e₀ q₀ e q c₀ c k x v m (invariant (sources k) e₀ q₀ c₀ s) f sx names free only
  invariant ph e q c (searches s) = seeds_end e q c (invariant (sources bound) e q c s)
  invariant ph e q c (takes {i = i} s h) = turn_begins e q c i (invariant (place i) e q c s) h
  invariant ph e q c (passes {i = i} {k = k} s h) = turn_passes e q c i k (invariant (turn i k) e q c s) h
  invariant ph e q c (finds {e = e₀} {q = q₀} {c = c₀} {i = i} {k = k} {v = v} s r f names one_more) =
      turn_finds e₀ q₀ e q c₀ c i k v (invariant (turn i k) e₀ q₀ c₀ s) r f names one_more
  invariant ph e q c (leaves {i = i} s) = turn_ends e q c i (invariant (turn i bound) e q c s)

  sound_in : (ph : Phase) (e q : ℕ → ℕ) (c : ℕ) → Holds G L bound ph e q c → Sound G L e q c
  sound_in (sources k) e q c h = h.sound
  sound_in (place i) e q c h = h.sound
  sound_in (turn i k) e q c h = h.searched.sound

  -- every place of the queue holds a vertex with a label
  pub search_listed : (ph : Phase) (e q : ℕ → ℕ) (c : ℕ) → Search G L bound ph e q c → (i : ℕ) → i < c → G.In (q i) × Has e (q i)
  search_listed ph e q c s = (sound_in ph e q c (invariant ph e q c s)).listed

  -- every vertex with a label is in the queue
  pub search_found : (ph : Phase) (e q : ℕ → ℕ) (c : ℕ) → Search G L bound ph e q c
      → (p : ℕ) → G.In p → Has e p → (i : ℕ) × (i < c) × (q i ≡ p)
  search_found ph e q c s = (sound_in ph e q c (invariant ph e q c s)).found

  -- at the end of the queue every place is done, so every labelled vertex is, and the rules are met
  pub search_ends : ((n : ℕ) → G.Step n → n < bound) → ((p n : ℕ) → G.Source p n → n < bound)
      → (e q : ℕ → ℕ) (c i : ℕ) → Search G L bound (place i) e q c → c ≤ i → Rules G (steps G) L e
  search_ends step_small source-small e q c i search l = record {
    source = λ p n m. let o = s.seeds p n m (source-small p n m) in (o.0, omega (arith, o.1));
    near = λ p n ip r h.
        let o = s.sound.found (G.lead p n) (G.lead_in p n ip r) h in
        let d = s.done o.0 n (omega (arith, o.1)) o.1 r (step_small n r) in
        let y : G.lead (q o.0) n ≡ p = ap (λ (w : ℕ). G.lead w n) o.2 ∙ G.back p n ip r in
        (subst (Has e) y d.0, omega (arith, d.1, ap (λ (w : ℕ). L.cost (e w)) y, ap (λ (w : ℕ). L.cost (e w)) o.2));
    made = s.sound.made;
  }
    where
      s : Searched G L bound e q c i
      s = invariant (place i) e q c search
