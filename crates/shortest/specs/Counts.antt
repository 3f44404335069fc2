-- The counts that keep a search in range: how many vertices have a label, of all and of a class. Assumes nothing.
use Rattle.std.specs.Prelude.{not, ◌≡◌, ℕ, ◌+◌, ◌<◌, eqb}
use Rattle.bicycle_common.specs.Letters.{flag}
use Rattle.bicycle_common.specs.Ranges.{sum}
use Rattle.shortest.specs.Graphs.{Has}

-- The vertices below total fall into classes of at most size members: p is member ix p of class cls p, and mem c i is member i of class c.
pub record Classes : Type 0 where
  pub total : ℕ
  pub size : ℕ
  pub cls : ℕ → ℕ
  pub ix : ℕ → ℕ
  pub mem : ℕ → ℕ → ℕ
  pub ix_small : (p : ℕ) → p < total → ix p < size
  pub mem_ix : (p : ℕ) → p < total → mem (cls p) (ix p) ≡ p

-- 1 where p has a label, else 0
abbrev pub labelled : (ℕ → ℕ) → ℕ → ℕ
labelled e p = flag (not (eqb (e p) 0))

-- how many of the first n numbers have a label
unfoldable pub entries_in : (ℕ → ℕ) → ℕ → ℕ
entries_in e n = sum n (λ (p : ℕ). labelled e p)

-- how many members of class c have a label
unfoldable pub in_class : Classes → (ℕ → ℕ) → ℕ → ℕ
in_class K e c = sum K.size (λ (i : ℕ). labelled e (K.mem c i))

-- The counts that keep a search in range; cost reads a label. The count of the queue is one less than that of the labels: number 0, which
-- is no vertex, has a label too. A label costs less than the number of labels in its class.
pub record Counted (K : Classes) (cost : ℕ → ℕ) (e q : ℕ → ℕ) (c : ℕ) : Type 0 where
  pub counted : c + 1 ≡ entries_in e K.total
  pub listed : (i : ℕ) → i < c → (q i < K.total) × Has e (q i)
  pub deep : (p : ℕ) → p < K.total → Has e p → cost (e p) < in_class K e (K.cls p)
