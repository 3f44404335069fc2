-- Every plan that is read is sound: each of its parts was read from a good line. Assumes nothing.
use Rattle.std.specs.Prelude.{Ok}
use mathlib.Core.Path.{◌≡◌, refl, subst}
use mathlib.Core.List.{List, [], ◌∷◌}
use Prim.Native.Nat.{ℕ, zero, suc, ◌≤◌}
use native.Mathlib.Omega.{arith}
use lib.Dec.{eqb}
use lib.ListN.{length, drop}
use borrow.Author.Tests.{eqb-false}
use Rattle.bicycle_common.specs.declared.Refusal.TheVariants.{Identity, PivotIdentity}
use Rattle.bicycle_common.specs.Bytes.{bytes_of}
use Rattle.pauli_string.specs.Strings.{qubits, has_pivot}
use Rattle.native_measurement.specs.declared.NativeNumber.{NativeNumber}
use Rattle.measurement.specs.declared.CodeMeasurement.{CodeMeasurement}
use Rattle.table.specs.Plans.{All, Supported, Gives}
use Rattle.reader.specs.Lines.{lines, line_at}
use Rattle.reader.specs.Plans.{Plan, strings_of, numbers, measured, most_rotations, matrix_line, native_line, supported, rotation_line, rotation_lines, plan_from, native_lines, read_lines, read_plan}
use Rattle.reader.specs.Sound.{Sound}
use Rattle.reader.proofs.Good.{good_same, passed, passed_not, both_good, native_small, matrix_good}

-- ---- the parts, each from its lines

-- the plan p is what good lines say
pub record Parts (ls : List (List ℕ)) (p : Plan) : Type 0 where
  pub mx : matrix_line (bytes_of "mx=") (line_at 0 ls) ≡ Ok p.pair.mx
  pub my : matrix_line (bytes_of "my=") (line_at 1 ls) ≡ Ok p.pair.my
  pub base : native_line (bytes_of "base=") (line_at 0 (drop 2 ls)) ≡ Ok p.base
  pub rotations : rotation_lines (strings_of p.pair) most_rotations (drop 1 (drop 2 ls)) ≡ Ok p.rotations
  pub some : measured p ≡ 0 → ⊥

pub read_parts : (s : List ℕ) (p : Plan) → read_plan s ≡ Ok p → Parts (lines s) p
unfolding read_plan read_lines native_lines plan_from
read_parts s p e =
    let ls = lines s in
    let x = both_good (matrix_line (bytes_of "mx=") (line_at 0 ls)) _ p e in
    let y = both_good (matrix_line (bytes_of "my=") (line_at 1 ls)) _ p x.2 in
    let c : CodeMeasurement = record { mx = x.0; my = y.0 } in
    let b = both_good (native_line (bytes_of "base=") (line_at 0 (drop 2 ls))) _ p y.2 in
    let r = both_good (rotation_lines (strings_of c) most_rotations (drop 1 (drop 2 ls))) _ p b.2 in
    let q : Plan = record { pair = c; base = b.0; rotations = r.0 } in
    let z = passed_not (eqb (measured q) 0) (Ok q) Identity p r.2 in
    subst (Parts ls) (good_same q p z.1)
    (record { mx = x.1; my = y.1; base = b.1; rotations = r.1; some = eqb-false (measured q) 0 z.0 })

-- ---- what each part is

module _ (f : ℕ → ℕ) where
  -- a rotation is a native with pivot support
  pub rotation_good : (l : List ℕ) (n : NativeNumber) → rotation_line f l ≡ Ok n → Supported qubits f n.0
  unfolding rotation_line
  rotation_good l n e =
      let a = both_good (native_line (bytes_of "rotation=") l) (supported f) n e in
      let z = passed (has_pivot qubits (f a.0.0)) (Ok a.0) PivotIdentity n a.2 in
      subst (λ (n : NativeNumber). Supported qubits f n.0) (good_same a.0 n z.1)
      (native_small (bytes_of "rotation=") l a.0 a.1, z.0)

  -- and there are at most k
  abbrev Rotations : ℕ → List NativeNumber → Type 0
  Rotations k ns = All (Supported qubits f) (numbers ns) × (length ns ≤ k)

  rotations_good : (k : ℕ) (ls : List (List ℕ)) (ns : List NativeNumber) → rotation_lines f k ls ≡ Ok ns → Rotations k ns
  unfolding rotation_lines
  rotations_good k [] ns e = subst (Rotations k) (good_same [] ns e) (tt, omega arith)
  rotations_good zero (l ∷ ls) ns e = let n : ◌≡◌ {A = ℕ} 0 1 = cc in absurd (omega arith)
  rotations_good (suc k) (l ∷ ls) ns e =
      let a = both_good (rotation_line f l) _ ns e in
      let b = both_good (rotation_lines f k ls) _ ns a.2 in
      let r = rotations_good k ls b.0 b.1 in
      subst (Rotations (suc k)) (good_same (a.0 ∷ b.0) ns b.2) ((rotation_good l a.0 a.1, r.0), omega (arith, r.1))

-- ---- the whole

pub read_sound : (s : List ℕ) (p : Plan) → read_plan s ≡ Ok p → Sound p
read_sound s p e =
    let h = read_parts s p e in
    let r = rotations_good (strings_of p.pair) most_rotations (drop 1 (drop 2 (lines s))) p.rotations h.rotations in
    record {
      mx = matrix_good (bytes_of "mx=") (line_at 0 (lines s)) p.pair.mx h.mx;
      my = matrix_good (bytes_of "my=") (line_at 1 (lines s)) p.pair.my h.my;
      gives = record {
        base_below = native_small (bytes_of "base=") (line_at 0 (drop 2 (lines s))) p.base h.base;
        supported = r.0;
        gives = refl;
      };
      few = r.1;
      some = h.some;
    }

-- the base and the rotations give the string that is measured
pub read_gives : (s : List ℕ) (p : Plan) → read_plan s ≡ Ok p → Gives qubits (strings_of p.pair) p.base.0 (numbers p.rotations) (measured p)
read_gives s p e = (read_sound s p e).gives
