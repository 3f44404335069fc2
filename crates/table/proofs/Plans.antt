-- A plan is a sequence of natives and the other way round: each native of a sequence, kept or not, leads where the one kept for its string
-- leads. Assumes nothing.
use mathlib.Core.Path.{◌≡◌, refl, sym, ap, subst, ◌∙◌}
use mathlib.Core.Bool.{true}
use mathlib.Core.List.{List, [], ◌∷◌, ◌++◌}
use Prim.Native.Nat.{ℕ, ◌+◌, ◌^◌, ◌≤◌, ◌<◌}
use native.Mathlib.Omega.{arith}
use lib.ListN.{length, length-append}
use Rattle.pauli_string.specs.Strings.{has_pivot, rotate}
use Rattle.native_measurement.specs.Natives.{natives}
use Rattle.natives.specs.Kept.{kept_for, Keeper}
use Rattle.natives.proofs.Kept.{keeper_for}
use Rattle.shortest.specs.Graphs.{Has, start, step, steps}
use Rattle.shortest.proofs.Shortest.{least, reached}
use Rattle.table.specs.Entries.{depth, Rotation, leads}
use Rattle.table.specs.Rules.{Rule}
use Rattle.table.proofs.Rules.{kept_for_law, rules}
use Rattle.table.proofs.Applied.{applied_zero, applied_append}
use Rattle.table.specs.Plans.{Nonzero, Base, graph, values, Plan, applied, All, Supported, Gives, Sequence}

-- ---- from a sequence to a plan

-- the native kept for the string of one with pivot support is a rotation
supported_rotation : (q : ℕ) (f : ℕ → ℕ) (n : ℕ) → n < natives → has_pivot q (f n) ≡ true → Rotation q f (kept_for f (f n))
supported_rotation q f n h e = go (keeper_for f n h)
  where
    go : Keeper f n (kept_for f (f n)) → Rotation q f (kept_for f (f n))
    go k = record { below = k.below; is_rotation_law = rw (k.is_kept, k.same) e }

-- and leads to the same
keeper_leads : (q : ℕ) (f : ℕ → ℕ) (p n : ℕ) → n < natives → leads q f p (kept_for f (f n)) ≡ leads q f p n
keeper_leads q f p n h = ap (rotate q p) (keeper_for f n h).same

module _ (q : ℕ) (f : ℕ → ℕ) (small : (n : ℕ) → f n < 4 ^ q) where
  plan_on : (k x : ℕ) (ns : List ℕ) → Plan q f small k x → All (Supported q f) ns → Plan q f small (k + length ns) (applied q f x ns)
  plan_on k x [] w s = let e : k ≡ k + 0 = omega arith in subst (λ (j : ℕ). Plan q f small j x) e w
  plan_on k x (n ∷ ns) w s =
      let v : Plan q f small (k + 1) (leads q f x n) =
      subst (Plan q f small (k + 1)) (keeper_leads q f x n s.0.0) (step w (kept_for f (f n)) (supported_rotation q f n s.0.0 s.0.1)) in
      let e : k + 1 + length ns ≡ k + length (n ∷ ns) = omega arith in
      subst (λ (j : ℕ). Plan q f small j (applied q f (leads q f x n) ns)) e (plan_on (k + 1) (leads q f x n) ns v s.1)

  -- what a sequence gives has a plan of that length
  sequence_plan : (b : ℕ) (ns : List ℕ) (p : ℕ) → Gives q f b ns p → (p ≡ 0 → ⊥) → Plan q f small (length ns) p
  sequence_plan b ns p g some =
      let nonzero : f b ≡ 0 → ⊥ = λ z. some (sym g.gives ∙ ap (λ (x : ℕ). applied q f x ns) z ∙ applied_zero q f ns) in
      let base : Base q f (f b) (kept_for f (f b)) = record {
        string = record { below = small b; some = nonzero };
        keeps = kept_for_law f (f b) b g.base_below refl;
      } in
      let z : 0 + length ns ≡ length ns = omega arith in
      subst (Plan q f small (length ns)) g.gives
      (subst (λ (k : ℕ). Plan q f small k (applied q f (f b) ns)) z (plan_on 0 (f b) ns (start base) g.supported))

  -- where every index meets its rule, what a sequence gives has an entry, of a depth that is no greater than the sequence is long
  pub sequence_reaches : (e : ℕ → ℕ) → ((p : ℕ) → p < 4 ^ q → Rule q f e p) → (b : ℕ) (ns : List ℕ) (p : ℕ) → Gives q f b ns p → (p ≡ 0 → ⊥)
      → Has e p × (depth (e p) ≤ length ns)
  sequence_reaches e ok b ns p g some =
      least (graph q f small) (steps (graph q f small)) values e (rules q f small e ok) p (length ns) (sequence_plan b ns p g some)

  -- ---- and back

  rotations_append : (ns : List ℕ) (n : ℕ) → All (Rotation q f) ns → Rotation q f n → All (Rotation q f) (ns ++ (n ∷ []))
  rotations_append [] n s r = (r, tt)
  rotations_append (m ∷ ns) n s r = (s.0, rotations_append ns n s.1 r)

  -- a plan is a kept native and rotations in order
  plan_sequence : (k p : ℕ) → Plan q f small k p → Sequence q f k p
  plan_sequence k p (start {n = n} b) = record {
    base = n;
    base_below = b.keeps.below;
    base_kept = b.keeps.is_kept;
    list = [];
    rotations = tt;
    long = refl;
    gives = b.keeps.measures;
  }
  plan_sequence k p (step {p = x} {k = j} w n r) = longer (plan_sequence j x w)
    where
      longer : Sequence q f j x → Sequence q f (j + 1) (leads q f x n)
      longer s = record {
        base = s.base;
        base_below = s.base_below;
        base_kept = s.base_kept;
        list = s.list ++ (n ∷ []);
        rotations = rotations_append s.list n s.rotations r;
        long = length-append s.list (n ∷ []) ∙ ap (λ (m : ℕ). m + 1) s.long;
        gives = applied_append q f (f s.base) s.list n ∙ ap (λ (y : ℕ). leads q f y n) s.gives;
      }

  -- where every index meets its rule, an entry has a sequence of its depth
  pub entry_sequence : (e : ℕ → ℕ) → ((p : ℕ) → p < 4 ^ q → Rule q f e p) → (p : ℕ) → Nonzero q p → Has e p → Sequence q f (depth (e p)) p
  entry_sequence e ok p i h =
      plan_sequence (depth (e p)) p (reached (graph q f small) (steps (graph q f small)) values e (rules q f small e ok) p i h)
