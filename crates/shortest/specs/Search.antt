-- Breadth-first search as a definition: which labels, queue and count a search can have come to, step by step. Assumes nothing.
use Rattle.std.specs.Prelude.{◌≡◌, ℕ, ◌+◌, ◌<◌}
use Rattle.shortest.specs.Graphs.{Graph, Labels, Has}

-- one discovery: x was without a label, gets v, and is last in the queue. e, q, c: labels, queue, its length; primed: afterwards
pub record Found (e q : ℕ → ℕ) (c : ℕ) (e' q' : ℕ → ℕ) (c' x v : ℕ) : Type 0 where
  pub fresh : e x ≡ 0
  pub some : v ≡ 0 → ⊥
  pub count : c' ≡ c + 1
  pub last : q' c ≡ x
  pub older : (i : ℕ) → i < c → q' i ≡ q i
  pub here : e' x ≡ v
  pub there : (p : ℕ) → (p ≡ x → ⊥) → e' p ≡ e p

-- how far the search is: the sources below number k are tried; the queue's places below i are done; of place i the steps below k too
pub data Phase : Type 0 where
  sources : ℕ → Phase
  place : ℕ → Phase
  turn : ℕ → ℕ → Phase

-- Search G L bound phase e q c: a search can be in that phase, with labels e and a queue q of c vertices. bound is above all numbers of
-- sources and steps.
pub data Search (G : Graph) (L : Labels) (bound : ℕ) : Phase → (ℕ → ℕ) → (ℕ → ℕ) → ℕ → Type 0 where
  -- no vertex has a label, and the queue is empty
  begins : {e q : ℕ → ℕ} → ((p : ℕ) → G.In p → e p ≡ 0) → Search G L bound (sources 0) e q 0
  -- what number k makes a source has a label
  known_source : {e q : ℕ → ℕ} {c k : ℕ} → Search G L bound (sources k) e q c → ((p : ℕ) → G.Source p k → Has e p)
      → Search G L bound (sources (k + 1)) e q c
  -- number k makes x a source, and no other vertex; x is given a number m by which it is a source
  new_source : {e q e' q' : ℕ → ℕ} {c c' k x v m : ℕ} → Search G L bound (sources k) e q c → Found e q c e' q' c' x v → G.Source x m
      → L.Names v m → L.cost v ≡ 0 → ((p : ℕ) → G.Source p k → p ≡ x) → Search G L bound (sources (k + 1)) e' q' c'
  -- all sources are tried
  searches : {e q : ℕ → ℕ} {c : ℕ} → Search G L bound (sources bound) e q c → Search G L bound (place 0) e q c
  -- the next place of the queue has its turn
  takes : {e q : ℕ → ℕ} {c i : ℕ} → Search G L bound (place i) e q c → i < c → Search G L bound (turn i 0) e q c
  -- k is no step, or it leads to a vertex with a label
  passes : {e q : ℕ → ℕ} {c i k : ℕ} → Search G L bound (turn i k) e q c → (G.Step k → Has e (G.lead (q i) k))
      → Search G L bound (turn i (k + 1)) e q c
  -- step k leads to a vertex without a label, which is discovered: it names k and costs one step more
  finds : {e q e' q' : ℕ → ℕ} {c c' i k v : ℕ} → Search G L bound (turn i k) e q c → G.Step k
      → Found e q c e' q' c' (G.lead (q i) k) v → L.Names v k → L.cost v ≡ L.cost (e (q i)) + 1
      → Search G L bound (turn i (k + 1)) e' q' c'
  -- all steps are tried
  leaves : {e q : ℕ → ℕ} {c i : ℕ} → Search G L bound (turn i bound) e q c → Search G L bound (place (i + 1)) e q c
