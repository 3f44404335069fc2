-- `search::visit` meets its contract: a turn is skipped where the filter shows that it is idle. Assumes nothing.
use mathlib.Core.Path.{sym, ap, subst, ◌∙◌}
use Prim.Native.Nat.{ℕ, ◌+◌}
use borrow.Author.Tests.{eqb-true}
use Rattle.bicycle_common.specs.Ranges.{in_turn}
use Rattle.pauli_string.specs.Strings.{qubits}
use Rattle.table.specs.Bytes.{entry}
use Rattle.table.specs.Entries.{depth}
use Rattle.digits.specs.Filter.{bucket}
use Rattle.discovery.specs.States.{Moving}
use Rattle.discovery.specs.Builds.{held}
use Rattle.discovery.proofs.Short.{is_short}
use Rattle.search.specs.Turns.{packed_tried}
use Rattle.search.proofs.Idle.{covers_idle}
use Rattle.search.proofs.visit.Goals as goal

pub returns-then-is_clear_unchecked-clause-comes : goal.returns-then-is_clear_unchecked-clause-comes
returns-then-is_clear_unchecked-clause-comes g c =
    let a = c.args in
    let r = a.r.now in
    let d = depth (entry a.b.now.table.now a.p) + 1 in
    record {
      to = sym (covers_idle qubits r.strings r.natives r.count a.filter.now.digits a.p d (held (is_short g.row.SHORT) a.b.now) c.requires.covers c.requires.moving.small (eqb-true (bucket a.filter.now.digits a.p) 0 (sym c.is_clear_unchecked.ensures ∙ c.if-is_clear_unchecked.true)));
      notes = c.requires.sound.0.notes;
    }

pub turn-requires-clause-moving : goal.turn-requires-clause-moving
turn-requires-clause-moving g c =
    subst (λ (v : ℕ). Moving qubits c.args.p (depth v + 1) (held (is_short g.row.SHORT) c.args.b.now)) (sym c.entry_unchecked-v.ensures) c.requires.moving

pub returns-clause-comes : goal.returns-clause-comes
returns-clause-comes g c =
    let r = c.args.r.now in
    let e = c.turn.ensures.comes in
    record {
      to = e.to ∙ ap (λ (v : ℕ). in_turn r.count (packed_tried qubits r.strings r.natives c.args.p (depth v + 1)) (held (is_short g.row.SHORT) c.args.b.now)) c.entry_unchecked-v.ensures;
      notes = e.notes;
    }
