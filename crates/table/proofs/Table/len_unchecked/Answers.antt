-- `table::Table::len_unchecked` meets its contract: the count so far is that of the values passed. Assumes nothing.
use mathlib.Core.Path.{◌≡◌, sym, ap, ◌∙◌}
use mathlib.Core.Bool.{Bool, not}
use Prim.Native.Nat.{ℕ, ◌≤◌}
use native.Mathlib.Omega.{arith}
use mir.Val.{bool_byte}
use lib.Dec.{eqb}
use Rattle.bicycle_common.specs.Letters.{flag}
use Rattle.bicycle_common.proofs.Letters.{flag_le}
use Rattle.shortest.specs.Counts.{labelled}
use Rattle.shortest.proofs.Counts.{entries_below, entries_none, entries_next}
use Rattle.measurement.proofs.Matrices.{byte_flag}
use Rattle.table.specs.Bytes.{entry}
use Rattle.table.proofs.Table.len_unchecked.Goals as goal

-- what is added is 1 for a value that is not 0
counted : (e : ℕ → ℕ) (p n v : ℕ) → n ≡ bool_byte (not (eqb v 0)) → v ≡ e p → n ≡ labelled e p
counted e p n v h k = h ∙ byte_flag _ ∙ ap (λ (v : ℕ). flag (not (eqb v 0))) k

added : (t : Bool) (n : ℕ) → n ≡ bool_byte t → n ≤ 1
added t n h = rw (h, byte_flag t) (flag_le t)

pub loop-p-init : goal.loop-p-init
loop-p-init c = sym (entries_none (entry c.args.self.bytes.now))

pub overflow_add-n : goal.overflow_add-n
overflow_add-n c =
    let w = c.loop-p in
    let e = entry c.args.self.bytes.now in
    omega (arith, w.invariant, entries_below e w.p, added _ _ c.from-n.ensures)

pub loop-p-preserved : goal.loop-p-preserved
loop-p-preserved c =
    let w = c.loop-p in
    let e = entry c.args.self.bytes.now in
    omega (arith, w.invariant, entries_next e w.p, counted e w.p _ _ c.from-n.ensures c.entry_unchecked.ensures)
