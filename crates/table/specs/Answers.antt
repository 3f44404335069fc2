-- What each public call answers: 1 for bytes that are no table of the strings of q letters, 4 for a number that is no string, 7 where there is
-- no value. The lowest number that applies is given. Assumes nothing.
use Rattle.std.specs.Prelude.{Bool, cond, not, ◌&&◌, List, [], ◌∷◌, ℕ, ◌^◌, eqb, length, Result, Ok, Err}
use Rattle.bicycle_common.specs.declared.Refusal.{Refusal}
use Rattle.bicycle_common.specs.declared.Refusal.TheVariants.{TableLength, Matrix, NoEntry}
use Rattle.bicycle_common.specs.Refusals.{Told, told}
use Rattle.bicycle_common.specs.Ranges.{most, all_below}
use Rattle.shortest.specs.Counts.{entries_in}
use Rattle.pauli_string.specs.Answers.{string_at}
use Rattle.measurement.specs.Matrices.{is_bytes}
use Rattle.table.specs.Bytes.{table_length, entry}
use Rattle.table.specs.Entries.{depth, field, cost}

abbrev pub told_number : Result ℕ Refusal → Told
told_number = told 1 (λ (n : ℕ). n ∷ [])

-- the bytes have the length of a table
abbrev pub is_table : ℕ → List ℕ → Bool
is_table q t = eqb (length t) (table_length q)

-- what a call answers of bytes that are a table, and else 1
abbrev pub table_at : {A : Type 0} → ℕ → List ℕ → Result A Refusal → Result A Refusal
table_at q t a = cond (is_table q t) a (Err TableLength)

-- what a call on the table of a pair of matrices of side s tests first: 1, then 3
abbrev pub given : ℕ → ℕ → List ℕ → List ℕ → List ℕ → Result (Unit {0}) Refusal
given q s t mx my = table_at q t (cond (is_bytes s mx && is_bytes s my) (Ok tt) (Err Matrix))

-- ---- of the whole table

-- how many values are not 0
abbrev pub entries : ℕ → List ℕ → ℕ
entries q t = entries_in (entry t) (4 ^ q)

-- the greatest depth
abbrev pub deepest : ℕ → List ℕ → ℕ
deepest q t = most (4 ^ q) (λ (p : ℕ). depth (entry t p))

-- true exactly when every value is 0
abbrev pub is_empty : ℕ → List ℕ → Result Bool Refusal
is_empty q t = table_at q t (Ok (all_below (4 ^ q) (λ (p : ℕ). eqb (entry t p) 0)))

abbrev pub len_of : ℕ → List ℕ → Result ℕ Refusal
len_of q t = table_at q t (Ok (entries q t))

-- ---- at string p

abbrev pub value_at : ℕ → List ℕ → ℕ → Result ℕ Refusal
value_at q t p = table_at q t (string_at q p (Ok (entry t p)))

-- what is answered of a value, where there is no refusal
abbrev pub of_value : {A : Type 0} → (ℕ → Result A Refusal) → Result ℕ Refusal → Result A Refusal
of_value f (Ok v) = f v
of_value f (Err r) = Err r

-- whether a value is an entry, where there is no refusal
abbrev pub is_entry : Result ℕ Refusal → Result Bool Refusal
is_entry = of_value (λ (v : ℕ). Ok (not (eqb v 0)))

abbrev pub has_entry_at : ℕ → List ℕ → ℕ → Result Bool Refusal
has_entry_at q t p = is_entry (value_at q t p)

abbrev pub depth_at : ℕ → List ℕ → ℕ → Result ℕ Refusal
depth_at q t p = of_value (λ (v : ℕ). Ok (depth v)) (value_at q t p)

abbrev pub field_at : ℕ → List ℕ → ℕ → Result ℕ Refusal
field_at q t p = of_value (λ (v : ℕ). Ok (field v)) (value_at q t p)

-- value 0 is no value
abbrev pub costed : ℕ → ℕ → Result ℕ Refusal
costed p v = cond (eqb v 0) (Err NoEntry) (Ok (cost p v))

abbrev pub cost_at : ℕ → List ℕ → ℕ → Result ℕ Refusal
cost_at q t p = of_value (costed p) (value_at q t p)
