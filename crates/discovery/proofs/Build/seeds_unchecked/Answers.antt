-- `Build::seeds_unchecked` meets its contract: after n natives the state is the model's, and in range. Assumes nothing.
use mathlib.Core.Path.{◌≡◌, refl, sym, ap, subst, ◌∙◌}
use mathlib.Core.Bool.{true}
use Prim.Native.Nat.{ℕ}
use native.Mathlib.Omega.{arith}
use Rattle.bicycle_common.specs.Ranges.{in_turn}
use Rattle.bicycle_common.proofs.Ranges.{in_turn_none, in_turn_next}
use Rattle.pauli_string.specs.Strings.{qubits}
use Rattle.natives.specs.Arrays.{at}
use Rattle.discovery.specs.Model.{State, begun, seed, seeded}
use Rattle.discovery.specs.States.{twelve, Good}
use Rattle.discovery.specs.Builds.{held}
use Rattle.discovery.proofs.Short.{seed_count}
use Rattle.discovery.proofs.States.{begun_good, seed_good}
use Rattle.discovery.proofs.Build.seeds_unchecked.Goals as goal

pub loop-n-init : goal.loop-n-init
unfolding begun
loop-n-init c = record {
  lent = (refl, refl);
  good = subst (Good qubits) (sym c.requires.to) (begun_good qubits);
  comes = record { to = c.requires.to ∙ sym (in_turn_none (seed (at c.args.natives.now.strings)) (begun qubits)); notes = c.requires.notes };
  few = omega (arith, ap (λ (s : State). s.count) c.requires.to);
}

pub loop-n-preserved : goal.loop-n-preserved
loop-n-preserved c =
    let f = at c.args.natives.now.strings in
    let l = c.loop-n in
    let s = held true l.self in
    let e = c.seed.ensures in
    record {
      lent = (e.same_reference.0 ∙ l.invariant.lent.0, e.same_reference.1 ∙ l.invariant.lent.1);
      good = subst (Good qubits) (sym e.comes.to) (seed_good qubits twelve f l.n s (c.args.natives.now.held.small l.n) c.loop-n-test.true l.invariant.good);
      comes = record { to = e.comes.to ∙ ap (seed f l.n) l.invariant.comes.to ∙ sym (in_turn_next l.n (seed f) (begun qubits)); notes = e.comes.notes };
      few = omega (arith, ap (λ (s : State). s.count) e.comes.to, seed_count f l.n s);
    }

pub returns-clause-comes : goal.returns-clause-comes
unfolding seeded
returns-clause-comes c =
    let z : c.loop-n.n ≡ 540 = omega arith in
    record {
      to = c.loop-n.invariant.comes.to ∙ ap (λ (n : ℕ). in_turn n (seed (at c.args.natives.now.strings)) (begun qubits)) z;
      notes = c.loop-n.invariant.comes.notes;
    }
