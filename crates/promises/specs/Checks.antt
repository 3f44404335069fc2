-- Tables that were built for a pair, and tables that the check accepts for it: of both every index meets its rule. Ties are free, and the check
-- refuses by 1 and 3. Assumes nothing.
use Rattle.bicycle_common.specs.declared.Refusal.{Refusal}
use Rattle.pauli_string.specs.declared.PauliString.{PauliString}
use Rattle.std.specs.Prelude.{◌≡◌, refl, true, false, ◌&&◌, ◌⊎◌, List, ℕ, ◌^◌, ◌≤◌, ◌<◌, length, Option, None, Result, Ok, Err}
use Rattle.std.proofs.Common.{sym, ap, subst, ◌∙◌, ⊎_elim, arith, lit<}
use Rattle.bicycle_common.specs.declared.Refusal.TheVariants.{TableLength, Matrix}
use Rattle.bicycle_common.specs.Refusals.{refused}
use Rattle.pauli_string.specs.Strings.{qubits}
use Rattle.pauli_string.proofs.Pivot.{rotate_string}
use Rattle.measurement.specs.Matrices.{side, of_bytes, is_bytes}
use Rattle.measurement.specs.Measures.{pair_string}
use Rattle.measurement.proofs.Strings.{native_lt}
use Rattle.shortest.specs.Graphs.{Has}
use Rattle.table.specs.Bytes.{entry}
use Rattle.table.specs.Entries.{depth, Names, KeptFor, leads}
use Rattle.table.specs.Rules.{NoNative, Down, Rule}
use Rattle.table.specs.Answers.{is_table, entries, deepest, given}
use Rattle.table.proofs.Answers.{is_given}
use Rattle.discovery.specs.Model.{built}
use Rattle.discovery.specs.States.{twelve}
use Rattle.discovery.proofs.Meets as Meets
use Rattle.builder.specs.declared.Built.{Built}
use Rattle.builder.specs.Answers.{After, done, build}
use Rattle.builder.proofs.Answers.{all_right, answered_built}
use Rattle.table_check.specs.Answers.{Checked, told_check}
use Rattle.table_check.proofs.Answers.{checked_one}

-- t is what a build for the pair leaves
pub record BuiltFor (mx my t : List ℕ) : Type 0 where
  pub table : List ℕ
  pub queue : List ℕ
  pub told : Built
  pub answers : (build qubits side table queue mx my).answer ≡ Ok told
  pub leaves : (build qubits side table queue mx my).table ≡ t

-- t is accepted by the table check for the pair
abbrev pub AcceptedFor : List ℕ → List ℕ → List ℕ → Type 0
AcceptedFor mx my t = Checked qubits side t mx my (Ok None)

abbrev pub BuiltOrAccepted : List ℕ → List ℕ → List ℕ → Type 0
BuiltOrAccepted mx my t = BuiltFor mx my t ⊎ AcceptedFor mx my t

-- ---- what these tables have in common

-- a table of the pair, of which every index meets its rule
pub record Ruled (mx my t : List ℕ) : Type 0 where
  pub is_given : given qubits side t mx my ≡ Ok tt
  pub ruled : (p : ℕ) → p < 4 ^ qubits → Rule qubits (pair_string side mx my) (entry t) p

pub small : (mx my : List ℕ) (n : ℕ) → pair_string side mx my n < 4 ^ qubits
small mx my = native_lt side (lit< tt) (of_bytes side mx) (of_bytes side my)

built_ruled : (mx my t : List ℕ) → BuiltFor mx my t → Ruled mx my t
built_ruled mx my t b =
    let h = answered_built qubits side b.table b.queue mx my b.told b.answers in
    let f = pair_string side mx my in
    let z : (built qubits f).table ≡ t = sym (ap (λ (o : After). o.table) h.2) ∙ b.leaves in
    record {
      is_given = is_given qubits side t mx my (ap (λ (l : List ℕ). length l) (sym z) ∙ (Meets.built_good qubits twelve f (small mx my)).table_long) h.0 h.1;
      ruled = subst (λ (l : List ℕ). (p : ℕ) → p < 4 ^ qubits → Rule qubits f (entry l) p) z (Meets.built_rule qubits twelve f (small mx my));
    }

pub ruled_table : (mx my t : List ℕ) → BuiltOrAccepted mx my t → Ruled mx my t
ruled_table mx my t b = ⊎_elim (built_ruled mx my t) (λ (a : AcceptedFor mx my t). record { is_given = a.done; ruled = a.every }) b

-- ---- one is the other

-- every pair of 0/1 matrices has a built table, for any buffers of the right length
pub every_pair_is_built : (t u mx my : List ℕ) → is_table qubits t ≡ true → is_table qubits u ≡ true → is_bytes side mx ≡ true → is_bytes side my ≡ true
    → BuiltFor mx my (build qubits side t u mx my).table
every_pair_is_built t u mx my a b x y =
    let z = sym (all_right qubits side t u mx my a b x y) in
    let d = done qubits (built qubits (pair_string side mx my)) in
    record {
      table = t;
      queue = u;
      told = record { entries = entries qubits d.table; depth = deepest qubits d.table };
      answers = ap (λ (o : After). o.answer) z;
      leaves = refl;
    }

-- and the check accepts it
pub built_is_accepted : (mx my t : List ℕ) → BuiltFor mx my t → (a : Result (Option PauliString) Refusal) → Checked qubits side t mx my a → a ≡ Ok None
built_is_accepted mx my t b a c =
    let r = built_ruled mx my t b in
    checked_one qubits side t mx my a (Ok None) c (record { done = r.is_given; every = r.ruled })

-- the check's contract permits one answer
pub check_one : (t mx my : List ℕ) (a b : Result (Option PauliString) Refusal) → Checked qubits side t mx my a → Checked qubits side t mx my b → a ≡ b
check_one = checked_one qubits side

-- ---- ties are free

-- tables of values e and e' have entries at the same strings, of the same depths, the same values at index 0 and at native strings; and where
-- e' has another entry, its field names some rotation that leads to an entry of depth one less
pub record Tied (f e e' : ℕ → ℕ) (p : ℕ) : Type 0 where
  pub none : e' p ≡ 0 → e p ≡ 0
  pub has : e p ≡ 0 → e' p ≡ 0
  pub deep : depth (e' p) ≡ depth (e p)
  pub first : p ≡ 0 → e' p ≡ e p
  pub native_string_law : (n : ℕ) → KeptFor f p n → e' p ≡ e p
  pub down : NoNative f p → Has e' p → (n : ℕ) × Down qubits f e' p n

-- then if every index of e meets its rule, every index of e' does: whichever of the rotations that lead down a table names, it passes
pub ties_are_free : (mx my : List ℕ) (e e' : ℕ → ℕ) → ((p : ℕ) → p < 4 ^ qubits → Rule qubits (pair_string side mx my) e p)
    → ((p : ℕ) → p < 4 ^ qubits → Tied (pair_string side mx my) e e' p) → (p : ℕ) → p < 4 ^ qubits → Rule qubits (pair_string side mx my) e' p
ties_are_free mx my e e' ok tied p h =
    let f = pair_string side mx my in
    let t = tied p h in
    let r = ok p h in
    let there : (n : ℕ) → leads qubits f p n < 4 ^ qubits = λ n. rotate_string qubits p (f n) h (small mx my n) in
    record {
      first = λ z. t.first z ∙ r.first z;
      native_string_law = λ some n k.
          subst (λ (v : ℕ). (depth v ≡ 0) × Names v n) (sym (t.native_string_law n k)) (r.native_string_law some n k);
      other = λ some none has.
          let d = r.other some none (λ z. has (t.has z)) in
          record {
            positive = subst (λ (k : ℕ). 1 ≤ k) (sym t.deep) d.positive;
            down = t.down none has;
            no_shorter = λ n rot has' less.
                let s = tied (leads qubits f p n) (there n) in
                d.no_shorter n rot (λ z. has' (s.has z)) (omega (arith, less, s.deep, t.deep));
          };
      without = λ some z.
          let w = r.without some (t.none z) in
          record { no_native = w.no_native; alone = λ n rot. (tied (leads qubits f p n) (there n)).has (w.alone n rot) };
    }

-- ---- refusals

module _ (t mx my : List ℕ) (a : Result (Option PauliString) Refusal) (c : Checked qubits side t mx my a) where
  -- 1 before 3
  pub no_table_1 : is_table qubits t ≡ false → told_check a ≡ refused 2 TableLength
  no_table_1 e = ap told_check (checked_one qubits side t mx my a (Err TableLength) c (rw e))

  pub no_matrix_3 : is_table qubits t ≡ true → (is_bytes side mx && is_bytes side my) ≡ false → told_check a ≡ refused 2 Matrix
  no_matrix_3 e x = ap told_check (checked_one qubits side t mx my a (Err Matrix) c (rw (e, x)))
