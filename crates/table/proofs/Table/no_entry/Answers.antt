-- `table::Table::no_entry` meets its contract: a value that is not 0 decides, and at the end none was met. Assumes nothing.
use mathlib.Core.Path.{sym, ◌∙◌}
use Prim.Native.Nat.{ℕ, ◌^◌}
use native.Mathlib.Omega.{arith}
use lib.Dec.{eqb}
use borrow.Author.Tests.{eq-eqb, ne_eqb}
use Rattle.bicycle_common.proofs.Ranges.{all_true, all_false}
use Rattle.pauli_string.specs.Strings.{qubits}
use Rattle.table.specs.Bytes.{entry}
use Rattle.table.proofs.Table.no_entry.Goals as goal

pub returns-then-entry_unchecked-ne0 : goal.returns-then-entry_unchecked-ne0
returns-then-entry_unchecked-ne0 c =
    let w = c.loop-p in
    let t = c.args.self.bytes.now in
    sym (all_false (4 ^ qubits) (λ (p : ℕ). eqb (entry t p) 0) w.p (omega arith) (ne_eqb _ _ (λ z. c.if-entry_unchecked-ne0.true (c.entry_unchecked.ensures ∙ z))))

pub returns : goal.returns
returns c =
    let w = c.loop-p in
    let t = c.args.self.bytes.now in
    sym (all_true (4 ^ qubits) (λ (p : ℕ). eqb (entry t p) 0) (λ j h. eq-eqb _ _ (w.invariant j (omega arith))))
