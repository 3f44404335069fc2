-- `search::visits` meets its contract: after j strings the state is the model's; what each may ask stays. Assumes nothing.
use mathlib.Core.Path.{◌≡◌, refl, sym, ap, subst, ◌∙◌}
use Prim.Native.Nat.{ℕ}
use native.Mathlib.Omega.{arith}
use Rattle.bicycle_common.specs.Ranges.{in_turn}
use Rattle.bicycle_common.proofs.Ranges.{in_turn_none, in_turn_next}
use Rattle.pauli_string.specs.Strings.{qubits}
use Rattle.native_measurement.specs.Natives.{natives}
use Rattle.natives.specs.Arrays.{at}
use Rattle.table.specs.Entries.{value}
use Rattle.discovery.specs.Model.{State, discover}
use Rattle.discovery.specs.States.{twelve, Good, Asks}
use Rattle.discovery.specs.Builds.{held}
use Rattle.discovery.proofs.Short.{is_short, room_less, tried_count}
use Rattle.discovery.proofs.States.{tried_asks}
use Rattle.search.specs.Turns.{listed_tried}
use Rattle.search.proofs.visits.Goals as goal

pub loop-j-init : goal.loop-j-init
loop-j-init g c =
    let a = c.args in
    let m = a.moved.now in
    record {
      lent = (refl, refl);
      comes = record { to = sym (in_turn_none (listed_tried m.strings m.natives a.depth) (held (is_short g.row.SHORT) a.b.now)); notes = c.requires.sound.0.notes };
    }

pub discover_unchecked-requires : goal.discover_unchecked-requires
discover_unchecked-requires g c =
    let a = c.args in
    let xs = at a.moved.now.strings in
    let ns = at a.moved.now.natives in
    let j = c.loop-j.j in
    let s = held (is_short g.row.SHORT) a.b.now in
    let e = c.loop-j.invariant.comes in
    let t = tried_asks qubits twelve xs ns a.depth j s c.requires.sound.0.good (λ i h. c.requires.by_index i (omega (arith, c.loop-j-test.true))) in
    record {
      sound = (
        record { good = subst (Good qubits) (sym e.to) t.0; notes = e.notes },
        room_less (is_short g.row.SHORT) a.b.now.count c.loop-j.b.count 1 natives c.requires.sound.1
            (omega (arith, ap (λ (s : State). s.count) e.to, tried_count xs ns a.depth j s, c.loop-j-test.true, a.moved.now.few)),
      );
      asks = subst (λ (s : State). Asks qubits s (xs j) a.depth (ns j)) (sym e.to) (t.1 (xs j) a.depth (ns j) (c.requires.by_index j c.loop-j-test.true));
    }

pub loop-j-preserved : goal.loop-j-preserved
loop-j-preserved g c =
    let a = c.args in
    let m = a.moved.now in
    let j = c.loop-j.j in
    let e = c.discover_unchecked.ensures in
    record {
      lent = (e.same_reference.0 ∙ c.loop-j.invariant.lent.0, e.same_reference.1 ∙ c.loop-j.invariant.lent.1);
      comes = record {
        to =
            e.comes.to
            ∙ ap (discover (at m.strings j) (value a.depth (at m.natives j))) c.loop-j.invariant.comes.to
            ∙ sym (in_turn_next j (listed_tried m.strings m.natives a.depth) (held (is_short g.row.SHORT) a.b.now));
        notes = e.comes.notes;
      };
    }

pub returns-clause-comes : goal.returns-clause-comes
returns-clause-comes g c =
    let m = c.args.moved.now in
    let z : c.loop-j.j ≡ m.count = omega arith in
    record {
      to = c.loop-j.invariant.comes.to ∙ ap (λ (k : ℕ). in_turn k (listed_tried m.strings m.natives c.args.depth) (held (is_short g.row.SHORT) c.args.b.now)) z;
      notes = c.loop-j.invariant.comes.notes;
    }
