-- `search::search_unchecked` meets its contract: the packed rotations are those of the natives. Assumes nothing.
use mathlib.Core.Path.{sym, ap, ◌∙◌}
use mathlib.Core.Bool.{true, false}
use mathlib.Core.List.{List}
use native.Mathlib.Omega.{arith}
use Rattle.bicycle_common.proofs.Ranges.{in_turn_none}
use Rattle.pauli_string.specs.Strings.{qubits}
use Rattle.natives.specs.Arrays.{at}
use Rattle.digits.proofs.Filling.{covers_fresh}
use Rattle.discovery.specs.Model.{state, expand}
use Rattle.discovery.specs.Builds.{held}
use Rattle.discovery.proofs.Short.{length_strung}
use Rattle.search.proofs.Scans.{reaches_all}
use Rattle.search.proofs.search_unchecked.Goals as goal

pub scan-place-requires-clause-covers : goal.scan-place-requires-clause-covers
scan-place-requires-clause-covers c =
    let r = c.pack_unchecked-r.result in
    covers_fresh qubits r.strings r.count c.args.b.now.table.now

pub clear_from-requires : goal.clear_from-requires
clear_from-requires c =
    omega (arith, length_strung true c.scan-place.new.b.queue.now, c.scan-place.ensures.reaches.good.queue_long)

pub returns-clause-searched : goal.returns-clause-searched
returns-clause-searched c =
    let r = c.pack_unchecked-r.result in
    let f = at c.args.natives.now.strings in
    let o = held true c.args.b.now in
    let first = c.scan-place in
    let b = first.new.b in
    reaches_all qubits r.strings r.natives r.count first.result (state b.table.now c.clear_from.new.bytes b.count)
    c.scan.result (held false c.scan.new.b) c.scan.ensures.reaches f o c.pack_unchecked-r.ensures
    (ap (λ (l : List _). state b.table.now l b.count) c.clear_from.ensures
    ∙ first.ensures.reaches.same f o c.pack_unchecked-r.ensures (sym (in_turn_none (expand qubits f) o)))
