-- `rotations::is_rotation_unchecked` meets its contract: both tests, in the definition's order, the first by its flag. Assumes nothing.
-- the flag of n says whether it is kept
use mathlib.Core.Path.{◌≡◌, sym, ap, ◌∙◌}
use mathlib.Core.Bool.{Bool, false, ◌&&◌}
use mathlib.Core.List.{List}
use lib.ListN.{get_or}
use Rattle.bicycle_common.proofs.Ranges.{listed_at}
use Rattle.pauli_string.specs.Strings.{qubits, has_pivot}
use Rattle.native_measurement.specs.Natives.{natives}
use Rattle.natives.specs.Kept.{kept}
use Rattle.natives.specs.Arrays.{at}
use Rattle.rotations.proofs.is_rotation_unchecked.Goals as goal
use Rattle.rotations.proofs.is_rotation_unchecked.Goals.{Start}

flag : (c : Start) → get_or c.args.natives.now.kept c.args.n false ≡ kept (at c.args.natives.now.strings) c.args.n
flag c =
    ap (λ (l : List Bool). get_or l c.args.n false) c.args.natives.now.flagged ∙ listed_at (kept (at c.args.natives.now.strings)) false natives c.args.n c.requires

pub returns-then-natives-n : goal.returns-then-natives-n
returns-then-natives-n c =
    c.has_pivot_support_unchecked.ensures ∙ ap (λ (b : Bool). b && has_pivot qubits (at c.args.natives.now.strings c.args.n)) (sym c.if-natives-n.true ∙ flag (goal.at.returns-then-natives-n c).Start)

pub returns-else-natives-n : goal.returns-else-natives-n
returns-else-natives-n c =
    c.if-natives-n.false ∙ ap (λ (b : Bool). b && has_pivot qubits (at c.args.natives.now.strings c.args.n)) (sym c.if-natives-n.false ∙ flag (goal.at.returns-else-natives-n c).Start)
