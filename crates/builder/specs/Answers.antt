-- What `build` answers, and what it leaves in the two buffers: 1 and 2 for their lengths, 3 for a pair that is none, and the buffers as they
-- were; else the built table and queue, with the number of entries and the greatest depth counted in the table. Assumes nothing.
use Rattle.std.specs.Prelude.{cond, ◌&&◌, List, [], ◌∷◌, ℕ, Result, Ok, Err}
use Rattle.bicycle_common.specs.declared.Refusal.{Refusal}
use Rattle.bicycle_common.specs.declared.Refusal.TheVariants.{TableLength, QueueLength, Matrix}
use Rattle.bicycle_common.specs.Refusals.{Told, told}
use Rattle.measurement.specs.Matrices.{is_bytes}
use Rattle.measurement.specs.Measures.{pair_string}
use Rattle.table.specs.Answers.{is_table, entries, deepest}
use Rattle.discovery.specs.Model.{State, built}
use Rattle.builder.specs.declared.Built.{Built}

-- the number of entries, the greatest depth
abbrev pub told_build : Result Built Refusal → Told
told_build = told 2 (λ (b : Built). b.entries ∷ b.depth ∷ [])

-- the answer, and the bytes of both buffers afterwards
pub record After : Type 0 where
  pub answer : Result Built Refusal
  pub table : List ℕ
  pub queue : List ℕ

abbrev pub after : Result Built Refusal → List ℕ → List ℕ → After
after a t q = record { answer = a; table = t; queue = q }

-- a table that was built, over q qubits
abbrev pub done : ℕ → State → After
done q s = after (Ok (record { entries = entries q s.table; depth = deepest q s.table })) s.table s.queue

-- of matrices of side s as bytes; t and u are the buffers before
abbrev pub build : ℕ → ℕ → List ℕ → List ℕ → List ℕ → List ℕ → After
build q s t u mx my =
    cond (is_table q t)
    (cond (is_table q u)
    (cond (is_bytes s mx && is_bytes s my)
    (done q (built q (pair_string s mx my)))
    (after (Err Matrix) t u))
    (after (Err QueueLength) t u))
    (after (Err TableLength) t u)
