-- Rotations lead back, so one that leads two or more down is seen from its upper end, where this stands above top, or else from its lower:
-- what neither end fails meets its rule, and what the lower end blames breaks it. Assumes nothing.
use mathlib.Core.Path.{◌≡◌, sym, ap, subst, ◌∙◌}
use Prim.Native.Nat.{ℕ, ◌+◌, ◌^◌, ◌<◌, ◌≤◌}
use native.Mathlib.Omega.{arith}
use native.Mathlib.Decide.{ℕ_discrete, dec_lt}
use Rattle.pauli_string.proofs.Pivot.{rotate_rotate, rotate_string, rotate_nonzero}
use Rattle.table.specs.Entries.{identity, leads}
use Rattle.table.specs.Rules.{Rule}
use Rattle.table_check.specs.Tests.{height, Calm, Scanned, Least, Blamed, Stops}
use Rattle.table_check.proofs.Index.{rooted_rule, rule_calm}
use Rattle.table_check.proofs.Stops.{first_meets}

module _ (q : ℕ) (f e : ℕ → ℕ) (small : (n : ℕ) → f n < 4 ^ q) (fits : (x : ℕ) → e x < 2 ^ 32) (top end r : ℕ) (S : Scanned q f e top end) (L : Least (Blamed q f e top (4 ^ q)) end r) where
  -- a rotation that leads from p two or more down is seen from p, or from where it leads
  all_calm : (p : ℕ) → (p ≡ 0 → ⊥) → p < r → Calm q f e p (height (e p))
  all_calm p some l n t w = elim (dec_lt top (height (e p))) [
    | yes g ↦ (S.tested p some (omega (arith, L.within))).steady g n t w
    | no g ↦ L.clear p l (record {
      by = leads q f p n;
      below = rotate_string q p (f n) (omega (arith, L.within, S.within)) (small n);
      holds = (
        λ z. some (rotate_nonzero q p (f n) z),
        record { low = omega arith; native = n; rotation = t; is = rotate_rotate q p (f n); high = w },
      );
    })
  ]

  -- what is blamed breaks its rule
  blamed_breaks : r < end → Rule q f e r → ⊥
  blamed_breaks l rule = go (L.found l)
    where
      go : Blamed q f e top (4 ^ q) r → ⊥
      go b =
          let a = b.holds.1 in
          let n = a.native in
          let z = a.is in
          let back : b.by ≡ leads q f r n = sym (rotate_rotate q b.by (f n)) ∙ ap (λ (x : ℕ). leads q f x n) z in
          let some : r ≡ 0 → ⊥ = λ w. b.holds.0 (rotate_nonzero q b.by (f n) (z ∙ w)) in
          rule_calm q f e r some (S.right r some l) fits rule n a.rotation
          (subst (λ (x : ℕ). height (e x) + 2 ≤ height (e r)) back a.high)

  pub sunk_stops : e 0 ≡ identity → Stops q f e r
  sunk_stops h = record {
    within = omega (arith, L.within, S.within);
    meets = λ p l. elim (ℕ_discrete p 0) [
      | yes z ↦ first_meets q f e h p (omega arith)
      | no some ↦ let g : p < end = omega (arith, L.within) in
          rooted_rule q f e p some (S.right p some g) fits (S.tested p some g).rooted (all_calm p some l)
    ];
    breaks = λ l rule. elim (dec_lt r end) [
      | yes g ↦ blamed_breaks g rule
      | no g ↦ let z : r ≡ end = omega (arith, L.within) in S.breaks (omega arith) (subst (Rule q f e) z rule)
    ];
  }
