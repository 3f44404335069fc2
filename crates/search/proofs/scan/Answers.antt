-- `search::scan` meets its contract: before each place the state is the model's, in range and covered by the filter; the count stays below
-- the number of strings, so the scan ends. Assumes nothing.
use mathlib.Core.Path.{◌≡◌, sym, ◌∙◌}
use native.Mathlib.Omega.{arith}
use Rattle.pauli_string.specs.Strings.{qubits}
use Rattle.native_measurement.specs.Natives.{natives}
use Rattle.table.specs.Bytes.{entry}
use Rattle.discovery.specs.States.{twelve}
use Rattle.discovery.specs.Short.{strung}
use Rattle.discovery.specs.Builds.{held}
use Rattle.discovery.proofs.States.{count_below, listed_moving}
use Rattle.discovery.proofs.Short.{is_short, length_strung, strung_entry, room_less}
use Rattle.search.proofs.Scans.{scan_next}
use Rattle.search.proofs.scan.Goals as goal
use Rattle.search.proofs.scan.Goals.{After-entry_unchecked-p}

pub invariant_of-entry_unchecked : goal.invariant_of-entry_unchecked
invariant_of-entry_unchecked g c =
    record { whole = sym (length_strung (is_short g.row.SHORT) c.loop-i.b.queue.now) ∙ c.loop-i.invariant.scanned.good.queue_long }

pub entry_unchecked-p-requires : goal.entry_unchecked-p-requires
entry_unchecked-p-requires g c =
    omega (arith, count_below qubits (held (is_short g.row.SHORT) c.loop-i.b) c.loop-i.invariant.scanned.good, c.loop-i-test.true)

-- the string at the place, read from the queue with its digits
read : (g : _) (c : After-entry_unchecked-p g) → c.entry_unchecked-p.result ≡ entry (strung (is_short g.row.SHORT) c.loop-i.b.queue.now) c.loop-i.i
read g c =
    let short = is_short g.row.SHORT in
    let l = c.loop-i in
    let q = l.b.queue.now in
    let n = l.b.count in
    c.entry_unchecked-p.ensures
    ∙ sym (strung_entry short q n l.i (omega (arith, length_strung short q, l.invariant.scanned.good.queue_long)) (room_less short n n 0 natives (c.is_full.ensures.0 c.if-not-is_full.true) (omega arith)) c.loop-i-test.true)

pub visit-requires-clause-moving : goal.visit-requires-clause-moving
visit-requires-clause-moving g c =
    let l = c.loop-i in
    listed_moving qubits (held (is_short g.row.SHORT) l.b) l.i c.entry_unchecked-p.result l.invariant.scanned.good c.loop-i-test.true (read g (goal.at.visit-requires-clause-moving g c).After-entry_unchecked-p)

pub loop-i-smaller : goal.loop-i-smaller
loop-i-smaller g c =
    omega (arith, count_below qubits (held (is_short g.row.SHORT) c.loop-i.b) c.loop-i.invariant.scanned.good, c.loop-i-test.true)

pub loop-i-preserved : goal.loop-i-preserved
loop-i-preserved g c =
    let short = is_short g.row.SHORT in
    let a = c.args in
    let r = a.r.now in
    let l = c.loop-i in
    let e = c.visit.ensures in
    record {
      lent = (e.same_reference.0 ∙ l.invariant.lent.0, e.same_reference.1 ∙ l.invariant.lent.1);
      scanned = scan_next qubits twelve r.strings r.natives r.count a.from (held short a.b.now) l.filter.digits (held short l.b) l.i l.invariant.scanned
          c.refresh_unchecked.new.self.digits (held short c.visit.new.b) c.entry_unchecked-p.result r.blanked c.loop-i-test.true (read g (goal.at.loop-i-preserved g c).After-entry_unchecked-p) c.refresh_unchecked.ensures e.comes.to;
      notes = e.comes.notes;
    }
