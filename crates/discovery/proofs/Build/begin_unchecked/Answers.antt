-- `Build::begin_unchecked` meets its contract: zeros everywhere, and then one value. Assumes nothing.
use mathlib.Core.Path.{◌≡◌, sym, ap, ap₂, subst, ◌∙◌}
use mathlib.Core.Bool.{true}
use mathlib.Core.List.{List}
use lib.Dec.{lit<, lit≤}
use Rattle.pauli_string.specs.Strings.{qubits}
use Rattle.table.specs.Bytes.{table_length, put, zeros}
use Rattle.table.specs.Entries.{identity}
use Rattle.discovery.specs.Model.{state, begun}
use Rattle.discovery.specs.Short.{strung, noted, Notes}
use Rattle.discovery.proofs.Short.{strung_noted, strung_zeros, notes_begun}
use Rattle.discovery.proofs.Build.begin_unchecked.Goals as goal

pub returns-clause-comes : goal.returns-clause-comes
unfolding begun
returns-clause-comes c =
    let k = table_length qubits in
    let eT : c.put_unchecked.new.table ≡ put (zeros k) 0 identity =
    c.put_unchecked.ensures ∙ ap (λ (t : List _). put t 0 identity) (c.clear_unchecked.ensures ∙ ap zeros c.requires.0) in
    let eQ : c.note.new.queue ≡ noted true (zeros k) 0 = c.note.ensures ∙ ap (λ (l : List _). noted true l 0) (c.clear_unchecked-2.ensures ∙ ap zeros c.requires.1) in
    record {
      to = ap₂ (λ (t u : List _). state t u 0) eT (ap (strung true) eQ ∙ strung_noted true (zeros k) 0 ∙ strung_zeros k (lit≤ tt));
      notes = subst (λ (l : List _). Notes true qubits l c.put_unchecked.new.table) (sym eQ) (subst (λ (t : List _). Notes true qubits (noted true (zeros k) 0) t) (sym eT) (notes_begun qubits k (lit< tt)));
    }
