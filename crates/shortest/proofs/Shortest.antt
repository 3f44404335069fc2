-- A labelling that meets the local rules is shortest: no walk is cheaper than the label of where it ends, by induction over the walk, and a
-- label is the cost of a walk, by induction over the cost. Assumes nothing.
use mathlib.Core.Path.{◌≡◌, sym, ap, subst}
use mathlib.Core.Logic.{⊎_elim}
use Prim.Native.Nat.{ℕ, zero, suc, ◌+◌, ◌≤◌, ◌<◌}
use native.Mathlib.Omega.{arith}
use Rattle.shortest.specs.Graphs.{Graph, Costs, Walk, start, step, Labels, Has, Made, Rules}

-- a walk ends at a vertex
pub walk_in : (G : Graph) (C : Costs G) {k p : ℕ} → Walk G C k p → G.In p
walk_in G C (start {p = p} {n = n} s) = G.source_in p n s
walk_in G C (step {p = p} w n s) = G.lead_in p n (walk_in G C w) s

module _ (G : Graph) (C : Costs G) (L : Labels) (e : ℕ → ℕ) (rules : Rules G C L e) where
  -- no walk is cheaper than the label of where it ends: what has no label is reached by no walk
  pub least : (p k : ℕ) → Walk G C k p → Has e p × (L.cost (e p) ≤ k)
  least p k (start {n = n} s) = rules.source p n s
  least p k (step {p = q} {k = j} w n s) = go (least q j w)
    where
      z : G.lead (G.lead q n) n ≡ q
      z = G.back q n (walk_in G C w) s

      go : Has e q × (L.cost (e q) ≤ j) → Has e (G.lead q n) × (L.cost (e (G.lead q n)) ≤ j + C.weight n)
      go h =
          let m = rules.near (G.lead q n) n (G.lead_in q n (walk_in G C w) s) s (subst (Has e) (sym z) h.0) in
          (m.0, omega (arith, m.1, h.1, ap (λ (v : ℕ). L.cost (e v)) z))

  -- induction over a bound of the cost
  reached_below : (b p : ℕ) → L.cost (e p) < b → G.In p → Has e p → Walk G C (L.cost (e p)) p
  reached_below zero p l i h = absurd (omega arith)
  reached_below (suc b) p l i h = go (rules.made p i h) (λ q. reached_below b q)
    where
      go : Made G C L e p → ((q : ℕ) → L.cost (e q) < b → G.In q → Has e q → Walk G C (L.cost (e q)) q) → Walk G C (L.cost (e p)) p
      go (n, _, m) rest =
          ⊎_elim
          (λ a. subst (λ (k : ℕ). Walk G C k p) (sym a.1) (start a.0))
          (λ a.
          let w = rest (G.lead p n) (omega (arith, a.2, C.positive n a.0)) (G.lead_in p n i a.0) a.1 in
          subst (λ (k : ℕ). Walk G C k p) (sym a.2)
          (subst (λ (v : ℕ). Walk G C (L.cost (e (G.lead p n)) + C.weight n) v) (G.back p n i a.0) (step w n a.0)))
          m

  -- a label is the cost of a walk
  pub reached : (p : ℕ) → G.In p → Has e p → Walk G C (L.cost (e p)) p
  reached p i h = reached_below (suc (L.cost (e p))) p (omega arith) i h

-- two labellings that meet the rules have the same labelled vertices and the same costs, however each is read
pub agree : (G : Graph) (C : Costs G) (L L' : Labels) (e e' : ℕ → ℕ) → Rules G C L e → Rules G C L' e'
    → (p : ℕ) → G.In p → Has e p → Has e' p × (L.cost (e p) ≡ L'.cost (e' p))
agree G C L L' e e' r r' p i h = go (least G C L' e' r' p (L.cost (e p)) (reached G C L e r p i h))
  where
    go : Has e' p × (L'.cost (e' p) ≤ L.cost (e p)) → Has e' p × (L.cost (e p) ≡ L'.cost (e' p))
    go a = (a.0, omega (arith, a.1, (least G C L e r p (L'.cost (e' p)) (reached G C L' e' r' p i a.0)).1))
