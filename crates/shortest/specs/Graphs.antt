-- Graphs of numbers, walks in them and their costs, and labellings of their vertices that meet local rules. Assumes nothing.
use Rattle.std.specs.Prelude.{◌≡◌, ◌⊎◌, ℕ, ◌+◌, ◌≤◌}
use Rattle.std.proofs.Common.{lit≤}

-- A graph with sources. In: the vertices. Step: the steps, by number. lead p n: where step n leads from p; the same step leads back.
-- Source p n: p is a source, by number n.
pub record Graph : Type 1 where
  pub In : ℕ → Type 0
  pub Step : ℕ → Type 0
  pub lead : ℕ → ℕ → ℕ
  pub lead_in : (p n : ℕ) → In p → Step n → In (lead p n)
  pub back : (p n : ℕ) → In p → Step n → lead (lead p n) n ≡ p
  pub Source : ℕ → ℕ → Type 0
  pub source_in : (p n : ℕ) → Source p n → In p

-- what it costs to start at a source, and to take a step, by their numbers
pub record Costs (G : Graph) : Type 0 where
  pub base : ℕ → ℕ
  pub weight : ℕ → ℕ
  pub positive : (n : ℕ) → G.Step n → 1 ≤ weight n

-- every step costs 1 and a source nothing: a walk's cost is the number of its steps
abbrev pub steps : (G : Graph) → Costs G
steps G = record { base = λ n. 0; weight = λ n. 1; positive = λ n s. lit≤ tt }

-- a walk from a source, with its cost and where it ends
pub data Walk (G : Graph) (C : Costs G) : ℕ → ℕ → Type 0 where
  start : {p n : ℕ} → G.Source p n → Walk G C (C.base n) p
  step : {p k : ℕ} → Walk G C k p → (n : ℕ) → G.Step n → Walk G C (k + C.weight n) (G.lead p n)

-- How a label, a number, is read: what it says of the cost, and which number of a source or step it names. 0 is no label.
pub record Labels : Type 1 where
  pub cost : ℕ → ℕ
  pub Names : ℕ → ℕ → Type 0

-- vertex p has a label, where e gives the labels
abbrev pub Has : (ℕ → ℕ) → ℕ → Type 0
Has e p = e p ≡ 0 → ⊥

-- the label of p names a source or a step that makes up its cost
abbrev pub Made : (G : Graph) → Costs G → Labels → (ℕ → ℕ) → ℕ → Type 0
Made G C L e p =
    (n : ℕ) × L.Names (e p) n
    × ((G.Source p n × (L.cost (e p) ≡ C.base n))
    ⊎ (G.Step n × Has e (G.lead p n) × (L.cost (e p) ≡ L.cost (e (G.lead p n)) + C.weight n)))

-- The local rules. A source costs at most what starting there costs; a neighbour of a labelled vertex has a label, and costs at most the
-- step between them more; and every label is made up by a source or a step.
pub record Rules (G : Graph) (C : Costs G) (L : Labels) (e : ℕ → ℕ) : Type 0 where
  pub source : (p n : ℕ) → G.Source p n → Has e p × (L.cost (e p) ≤ C.base n)
  pub near : (p n : ℕ) → G.In p → G.Step n → Has e (G.lead p n) → Has e p × (L.cost (e p) ≤ L.cost (e (G.lead p n)) + C.weight n)
  pub made : (p : ℕ) → G.In p → Has e p → Made G C L e p
