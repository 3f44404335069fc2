-- `Filter::fill` meets its contract: after the strings below z, the neighbours of those without an entry are marked. Assumes nothing.
use mathlib.Core.Path.{◌≡◌, subst}
use Prim.Native.Nat.{◌^◌}
use native.Mathlib.Omega.{arith}
use Rattle.pauli_string.specs.Strings.{qubits}
use Rattle.digits.specs.Filter.{Filled}
use Rattle.digits.proofs.Filling.{filled_covers}
use Rattle.digits.proofs.Filter.fill.Goals as goal

pub returns : goal.returns
returns c =
    let r = c.args.r.now in
    let f = c.loop-z.self.digits in
    let t = c.args.table.bytes.now in
    let z : c.loop-z.z ≡ 4 ^ qubits = omega arith in
    filled_covers qubits r.strings r.count f t c.loop-z.self.long r.blanked.small (subst (Filled qubits r.strings r.count f t) z c.loop-z.invariant)
