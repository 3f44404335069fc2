-- `pauli_string::PauliString::from_letters` meets its contract: the loop goes down from qubit 11, and x and z are the numbers of the digits of
-- the letters passed. Assumes nothing.
use mathlib.Core.List.{List, []}
use mathlib.Core.Path.{◌≡◌, sym, ap, ap₂, subst, ◌∙◌}
use Prim.Native.Nat.{ℕ, ◌+◌, ◌*◌, ◌≤◌, ◌<◌}
use native.Mathlib.Omega.{arith}
use lib.Dec.{lit≤}
use lib.ListN.{length, drop}
use lib.Seq.{drop-length}
use borrow.Author.Rules.{rules}
use Rattle.bicycle_common.proofs.Letters.{x_of_lt, z_of_lt}
use Rattle.bicycle_common.specs.Letters.{x_of, z_of}
use Rattle.bicycle_common.specs.declared.Pauli.{Pauli}
use Rattle.pauli_string.specs.Text.{number, string_of}
use Rattle.pauli_string.proofs.Places.{join}
use Rattle.pauli_string.proofs.Text.{number_step, number_small}
use Rattle.pauli_string.proofs.PauliString.from_letters.Goals as goal
use Rattle.pauli_string.proofs.PauliString.from_letters.Goals.{At-loop-i}

-- so both fit in twelve bits
x_small : (c : At-loop-i) → c.loop-i.x < 4096
x_small c =
    subst (λ (n : ℕ). n < 4096) (sym c.loop-i.invariant.2) (number_small x_of x_of_lt c.args.value 12 c.loop-i.i c.loop-i.invariant.1)

z_small : (c : At-loop-i) → c.loop-i.z < 4096
z_small c =
    subst (λ (n : ℕ). n < 4096) (sym c.loop-i.invariant.3) (number_small z_of z_of_lt c.args.value 12 c.loop-i.i c.loop-i.invariant.1)

pub loop-i-init : goal.loop-i-init
unfolding number
loop-i-init c =
    let n : length c.args.value ≡ 12 = search rules in
    let e : drop 12 c.args.value ≡ [] = ap (λ (k : ℕ). drop k c.args.value) (sym n) ∙ drop-length c.args.value in
    (omega arith, n, ap (number x_of) (sym e), ap (number z_of) (sym e))

pub push-x-requires : goal.push-x-requires
push-x-requires c = x_small (goal.at.push-x-requires c).At-loop-i

pub push-z-requires : goal.push-z-requires
push-z-requires c = z_small (goal.at.push-z-requires c).At-loop-i

pub loop-i-preserved : goal.loop-i-preserved
loop-i-preserved c =
    let ls : List Pauli = c.args.value in
    let n : length ls ≡ 12 = c.loop-i.invariant.1 in
    let p : 0 < c.loop-i.i = omega arith in
    let k : c.loop-i.i ≤ length ls = omega arith in (
      omega arith,
      n,
      c.push-x.ensures ∙ ap₂ (λ (h d : ℕ). h * 2 + d) c.loop-i.invariant.2 c.has_x.ensures
          ∙ sym (number_step x_of ls c.loop-i.i p k),
      c.push-z.ensures ∙ ap₂ (λ (h d : ℕ). h * 2 + d) c.loop-i.invariant.3 c.has_z.ensures ∙ sym (number_step z_of ls c.loop-i.i p k),
    )

pub returns : goal.returns
unfolding string_of
returns c =
    let s = (goal.at.returns c).At-loop-i in
    let ls : List Pauli = c.args.value in
    let e : c.loop-i.i ≡ 0 = omega arith in
    join 32 12 c.loop-i.z c.loop-i.x (lit≤ tt) (z_small s) (x_small s)
    ∙ ap₂ (λ (z x : ℕ). z * 4096 + x) (c.loop-i.invariant.3 ∙ ap (λ (k : ℕ). number z_of (drop k ls)) e) (c.loop-i.invariant.2 ∙ ap (λ (k : ℕ). number x_of (drop k ls)) e)
