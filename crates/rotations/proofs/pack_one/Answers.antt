-- `rotations::pack_one` meets its contract: a native that is no rotation changes nothing, and another is stored behind the front. Assumes
-- nothing.
use mathlib.Core.Path.{sym, ◌∙◌}
use Prim.Native.Nat.{◌+◌, ◌<◌}
use native.Mathlib.Omega.{arith}
use lib.Dec.{lit<}
use lib.ListN.{set}
use Rattle.pauli_string.specs.Strings.{qubits}
use Rattle.natives.specs.Arrays.{at}
use Rattle.rotations.specs.Packed.{Packed}
use Rattle.rotations.proofs.Packed.{chosen_front, packed_skip, packed_more}
use Rattle.rotations.proofs.pack_one.Goals as goal
use Rattle.rotations.proofs.pack_one.Goals.{Start, After-zero_pivot_unchecked-string}

-- the front ends before the array does
room : (c : Start) → c.args.r.now.count < 540
room c = omega (arith, chosen_front c.requires.packed.chosen)

more : (c : After-zero_pivot_unchecked-string) → let a = c.args in let r = a.r.now in
    Packed qubits (at a.natives.now.strings) (set r.strings r.count c.zero_pivot_unchecked-string.result.0) (set r.natives r.count a.n) (r.count + 1) (a.n + 1)
more c =
    let a = c.args in
    let r = a.r.now in
    rw c.zero_pivot_unchecked-string.ensures
    (packed_more qubits (lit< tt) (at a.natives.now.strings) r.strings r.natives r.count a.n c.requires.below c.requires.packed
    (sym c.is_rotation_unchecked.ensures ∙ c.if-is_rotation_unchecked.true) (a.natives.now.held.small a.n))

pub bounds-r-r : goal.bounds-r-r
bounds-r-r c = room (goal.at.bounds-r-r c).Start

pub bounds-r-r-then-is_rotation_unchecked : goal.bounds-r-r-then-is_rotation_unchecked
bounds-r-r-then-is_rotation_unchecked c = room (goal.at.bounds-r-r-then-is_rotation_unchecked c).Start

pub invariant_of-r : goal.invariant_of-r
invariant_of-r c = record { blanked = (more (goal.at.invariant_of-r c).After-zero_pivot_unchecked-string).rotations }

pub returns-then-is_rotation_unchecked : goal.returns-then-is_rotation_unchecked
returns-then-is_rotation_unchecked c = more (goal.at.returns-then-is_rotation_unchecked c).After-zero_pivot_unchecked-string

pub returns-else-is_rotation_unchecked : goal.returns-else-is_rotation_unchecked
returns-else-is_rotation_unchecked c =
    let a = c.args in
    packed_skip qubits (at a.natives.now.strings) a.r.now.strings a.r.now.natives a.r.now.count a.n (sym c.is_rotation_unchecked.ensures ∙ c.if-is_rotation_unchecked.false) c.requires.packed
