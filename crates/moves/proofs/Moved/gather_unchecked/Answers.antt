-- `Moved::gather_unchecked` meets its contract: each rotation is stored behind those that move p, and counts where the two anticommute; what is
-- told of the later ones stands behind what is stored. Assumes nothing.
use mathlib.Core.Path.{subst, ◌∙◌}
use Prim.Native.Nat.{ℕ}
use native.Mathlib.Omega.{arith}
use lib.Seq.{get_or-set_other}
use Rattle.pauli_string.specs.Strings.{qubits}
use Rattle.pauli_string.proofs.Commutation.{count_law}
use Rattle.natives.specs.Arrays.{at}
use Rattle.moves.specs.Moves.{none, Odds}
use Rattle.moves.proofs.Moves.{gather_more}
use Rattle.moves.proofs.Moved.gather_unchecked.Goals as goal

pub loop-i-init : goal.loop-i-init
loop-i-init c =
    let a = c.args in (
      record { scratch = record { long_x = a.self.now.scratch.long_x; long_g = c.odds.ensures.0 }; front = omega arith; led = none },
      subst (λ (t : ℕ). Odds t a.r.now.strings 0 a.r.now.count c.odds.new.gs) c.transposed.ensures c.odds.ensures.1,
    )

pub loop-i-preserved : goal.loop-i-preserved
loop-i-preserved c =
    let a = c.args in
    let r = a.r.now in
    let l = c.loop-i in
    let s = l.self in (
      gather_more qubits a.p r.strings r.natives r.count l.i s.strings s.natives l.k r.blanked c.loop-i-test.true l.invariant.0 (at s.natives l.i)
          (l.invariant.1 l.i (omega arith) c.loop-i-test.true ∙ count_law qubits a.p (at r.strings l.i) c.requires (r.blanked.small l.i)),
      λ j b h. get_or-set_other s.natives l.k j (at r.natives l.i) 0 (λ z. omega (arith, l.invariant.0.front)) ∙ l.invariant.1 j (omega arith) h,
    )
