-- What holds of a built table, of every pair of matrices, at twelve qubits: every index meets its rule, an entry is a shortest plan, and a
-- string without an entry is reached by no sequence of natives. Each is a case of a law in `shortest`, `table` or `builder`, over any number
-- of qubits. Assumes nothing.
use Rattle.std.specs.Prelude.{◌≡◌, true, false, ◌&&◌, List, ℕ, ◌+◌, ◌^◌, ◌≤◌, ◌<◌, length}
use Rattle.std.proofs.Common.{sym, lit<}
use Rattle.bicycle_common.proofs.Ranges.{most_at}
use Rattle.shortest.specs.Graphs.{Has}
use Rattle.shortest.proofs.Shortest.{agree}
use Rattle.pauli_string.specs.Strings.{qubits}
use Rattle.native_measurement.specs.Natives.{natives}
use Rattle.measurement.specs.Matrices.{side, Matrix, is_bytes}
use Rattle.measurement.specs.Measures.{native_string, pair_string}
use Rattle.measurement.proofs.Strings.{native_lt}
use Rattle.natives.specs.Kept.{kept_for}
use Rattle.table.specs.Bytes.{entry}
use Rattle.table.specs.Entries.{depth, valid}
use Rattle.table.specs.Rules.{Rule}
use Rattle.table.specs.Plans.{Nonzero, Gives, Sequence}
use Rattle.table.specs.Answers.{is_table, entries, deepest}
use Rattle.table.proofs.Rules.{rules, rule_valid}
use Rattle.table.proofs.Plans.{sequence_reaches, entry_sequence}
use Rattle.discovery.specs.Model.{built}
use Rattle.discovery.specs.States.{twelve}
use Rattle.discovery.proofs.Meets as Meets
use Rattle.discovery.proofs.States.{good_counts}
use Rattle.builder.specs.Answers.{told_build, build, done}
use Rattle.builder.proofs.Answers.{all_right}

module _ (mx my : Matrix) where
  -- the natives' strings, the built table's values, the strings in the queue and their number
  abbrev f : ℕ → ℕ
  f = native_string side mx my

  abbrev value : ℕ → ℕ
  value = entry (built qubits f).table

  abbrev place : ℕ → ℕ
  place = entry (built qubits f).queue

  abbrev count : ℕ
  count = (built qubits f).count

  abbrev small : (n : ℕ) → f n < 4 ^ qubits
  small = native_lt side (lit< tt) mx my

  -- ---- the rule of the table check

  pub every_index_meets_its_rule : (p : ℕ) → p < 4 ^ qubits → Rule qubits f value p
  every_index_meets_its_rule = Meets.built_rule qubits twelve f small

  -- the identity keeps 541, whatever the natives measure
  pub identity_keeps_541 : value 0 ≡ 541
  identity_keeps_541 = Meets.built_identity qubits twelve f small

  -- a native's entry is its kept number and 1
  pub native_entry : (n : ℕ) → n < natives → (f n ≡ 0 → ⊥) → value (f n) ≡ kept_for f (f n) + 1
  native_entry = Meets.built_native qubits twelve f small

  -- every entry of a nonzero string is valid
  pub every_entry_is_valid : (p : ℕ) → p < 4 ^ qubits → (p ≡ 0 → ⊥) → Has value p → valid qubits f (value p) p ≡ true
  every_entry_is_valid p h some e = rule_valid qubits f value p (every_index_meets_its_rule p h) some e

  -- ---- shortest plans

  -- an entry has a plan of its depth: a kept native and that many rotations, which applied in order to its string give the string
  pub entry_has_a_plan : (p : ℕ) → Nonzero qubits p → Has value p → Sequence qubits f (depth (value p)) p
  entry_has_a_plan = entry_sequence qubits f small value every_index_meets_its_rule

  -- and no shorter sequence of natives with pivot support, kept or not, gives it from any native
  pub no_sequence_is_shorter : (b : ℕ) (ns : List ℕ) (p : ℕ) → Gives qubits f b ns p → (p ≡ 0 → ⊥) → depth (value p) ≤ length ns
  no_sequence_is_shorter b ns p g some = (sequence_reaches qubits f small value every_index_meets_its_rule b ns p g some).1

  -- a string without an entry is reached by no sequence of any length
  pub no_entry_no_sequence : (b : ℕ) (ns : List ℕ) (p : ℕ) → Gives qubits f b ns p → (p ≡ 0 → ⊥) → value p ≡ 0 → ⊥
  no_entry_no_sequence b ns p g some = (sequence_reaches qubits f small value every_index_meets_its_rule b ns p g some).0

  pub depth_never_passes : (p : ℕ) → p < 4 ^ qubits → depth (value p) ≤ 4194303
  depth_never_passes = Meets.built_depth qubits twelve f small

  -- the depth that a build tells is passed by no entry; that it keeps that bound too is `told_depth_never_passes` in `proofs/Tables.antt`
  pub no_depth_passes_the_told : (p : ℕ) → p < 4 ^ qubits → depth (value p) ≤ deepest qubits (built qubits f).table
  no_depth_passes_the_told = most_at (4 ^ qubits) (λ (p : ℕ). depth (value p))

  -- ---- any table that meets the rules

  -- has entries for the same strings, of the same depths: ties alone are free
  pub same_depths : (e : ℕ → ℕ) → ((p : ℕ) → p < 4 ^ qubits → Rule qubits f e p) → (p : ℕ) → Nonzero qubits p → Has e p
      → Has value p × (depth (e p) ≡ depth (value p))
  same_depths e ok =
      agree _ _ _ _ e value (rules qubits f small e ok) (Meets.built_rules qubits twelve f small)

  pub same_entries : (e : ℕ → ℕ) → ((p : ℕ) → p < 4 ^ qubits → Rule qubits f e p) → (p : ℕ) → Nonzero qubits p → Has value p → Has e p
  same_entries e ok p i h =
      (agree _ _ _ _ value e (Meets.built_rules qubits twelve f small) (rules qubits f small e ok) p i h).0

  -- ---- the queue

  -- holds the strings with an entry, each once, and then zeros
  pub queue_holds_entries : (i : ℕ) → i < count → Nonzero qubits (place i) × Has value (place i)
  queue_holds_entries = Meets.built_queue_front qubits twelve f small

  pub queue_holds_all : (p : ℕ) → Nonzero qubits p → Has value p → (i : ℕ) × (i < count) × (place i ≡ p)
  queue_holds_all = Meets.built_queue_all qubits twelve f small

  pub queue_holds_once : (i j : ℕ) → i < j → j < count → place i ≡ place j → ⊥
  queue_holds_once = Meets.built_queue_once qubits twelve f small

  pub queue_ends_in_zeros : (i : ℕ) → count ≤ i → place i ≡ 0
  queue_ends_in_zeros = Meets.built_queue_rest qubits twelve f small

  -- the entries are these strings and the identity
  pub entries_are_counted : count + 1 ≡ entries qubits (built qubits f).table
  entries_are_counted = good_counts qubits (built qubits f) (Meets.built_good qubits twelve f small)

-- ---- refusals

module _ (t u mx my : List ℕ) where
  -- 1 before 2 before 3
  pub no_table_1 : is_table qubits t ≡ false → (told_build (build qubits side t u mx my).answer).number ≡ 1
  no_table_1 e = rw e

  pub no_queue_2 : is_table qubits t ≡ true → is_table qubits u ≡ false → (told_build (build qubits side t u mx my).answer).number ≡ 2
  no_queue_2 e d = rw (e, d)

  pub no_matrix_3 : is_table qubits t ≡ true → is_table qubits u ≡ true → (is_bytes side mx && is_bytes side my) ≡ false
      → (told_build (build qubits side t u mx my).answer).number ≡ 3
  no_matrix_3 e d x = rw (e, d, x)

  -- and otherwise none
  pub else_built : is_table qubits t ≡ true → is_table qubits u ≡ true → is_bytes side mx ≡ true → is_bytes side my ≡ true
      → build qubits side t u mx my ≡ done qubits (built qubits (pair_string side mx my))
  else_built e d x y = sym (all_right qubits side t u mx my e d x y)
