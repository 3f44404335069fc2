-- What the definition of a build gives of buffers and a pair that pass its tests, and that what is read off a built state is what the definition
-- counts. Assumes nothing.
use Rattle.std.specs.Prelude.{Ok, Err}
use mathlib.Core.Path.{◌≡◌, refl, sym, ap, ap₂, subst, ◌∙◌}
use mathlib.Core.Bool.{Bool, true, false, cond, ◌&&◌, and-eq-true_iff}
use mathlib.Core.List.{List}
use Prim.Native.Nat.{ℕ, ◌+◌}
use native.Mathlib.Omega.{arith}
use Rattle.bicycle_common.specs.declared.Refusal.TheVariants.{TableLength, QueueLength, Matrix}
use Rattle.measurement.specs.Matrices.{is_bytes}
use Rattle.measurement.specs.Measures.{pair_string}
use Rattle.table.specs.Answers.{is_table, entries, deepest}
use Rattle.discovery.specs.Model.{State, state, built}
use Rattle.discovery.specs.States.{Good}
use Rattle.discovery.proofs.States.{good_counts}
use Rattle.builder.specs.declared.Built.{Built}
use Rattle.builder.specs.Answers.{After, after, done, build}

module _ (q s : ℕ) (t u mx my : List ℕ) where
  pub all_right : is_table q t ≡ true → is_table q u ≡ true → is_bytes s mx ≡ true → is_bytes s my ≡ true
      → done q (built q (pair_string s mx my)) ≡ build q s t u mx my
  all_right e d x y = rw (e, d, x, y)

-- a build that is not refused was given its buffers and a pair
by_tests : (a b c : Bool) (w : After) (t u : List ℕ) (d : Built)
    → (cond a (cond b (cond c w (after (Err Matrix) t u)) (after (Err QueueLength) t u)) (after (Err TableLength) t u)).answer ≡ Ok d
    → (a ≡ true) × (b ≡ true) × (c ≡ true)
by_tests true true true w t u d e = (refl, refl, refl)
by_tests true true false w t u d e = let n : ◌≡◌ {A = ℕ} 0 1 = cc in absurd (omega arith)
by_tests true false c w t u d e = let n : ◌≡◌ {A = ℕ} 0 1 = cc in absurd (omega arith)
by_tests false b c w t u d e = let n : ◌≡◌ {A = ℕ} 0 1 = cc in absurd (omega arith)

pub answered_built : (q s : ℕ) (t u mx my : List ℕ) (d : Built) → (build q s t u mx my).answer ≡ Ok d
    → (is_bytes s mx ≡ true) × (is_bytes s my ≡ true) × (build q s t u mx my ≡ done q (built q (pair_string s mx my)))
answered_built q s t u mx my d e =
    let h = by_tests (is_table q t) (is_table q u) (is_bytes s mx && is_bytes s my) (done q (built q (pair_string s mx my))) t u d e in
    let m = (and-eq-true_iff (is_bytes s mx) (is_bytes s my)).0 h.2 in
    (m.0, m.1, sym (all_right q s t u mx my h.0 h.1 m.0 m.1))

-- the entries are the strings in the queue and the identity; T and U are the buffers that were lent
pub built_outcome : (q : ℕ) (T U t u : List ℕ) (c d : ℕ) (b : State) → T ≡ t → U ≡ u → state t u c ≡ b → Good q b → d ≡ deepest q t
    → after (Ok (record { entries = c + 1; depth = d })) T U ≡ done q b
built_outcome q T U t u c d b eT eU e g z =
    let k : c + 1 ≡ entries q t = good_counts q (state t u c) (subst (Good q) (sym e) g) in
    ap₂ (λ (t u : List ℕ). after (Ok (record { entries = c + 1; depth = d })) t u) eT eU
    ∙ ap₂ (λ (m n : ℕ). after (Ok (record { entries = m; depth = n })) t u) k z
    ∙ ap (done q) e
