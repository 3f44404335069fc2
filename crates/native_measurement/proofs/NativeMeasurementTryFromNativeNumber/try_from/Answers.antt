-- `native_measurement::NativeMeasurement::try_from` meets its contract: the two letters are never both the identity, so there are bases.
-- Assumes nothing.
use mathlib.Core.Path.{◌≡◌, refl, sym, ap, ◌∙◌}
use native.Mathlib.Omega.{arith}
use borrow.Author.Rules.{rules}
use borrow.Author.Tests.{lt-ltb}
use Rattle.std.specs.Prelude.{Option, None, Some, Ok, IsSome}
use Rattle.bicycle_common.specs.declared.TwoBases.{TwoBases}
use Rattle.bicycle_common.specs.Letters.{bases_of}
use Rattle.native_measurement.proofs.Natives.{pair_bases, native_bases}
use Rattle.native_measurement.proofs.NativeMeasurementTryFromNativeNumber.try_from.Goals as goal

is_some : (x : Option TwoBases) → (x ≡ None → ⊥) → IsSome x
is_some None h = absurd (h refl)
is_some (Some b) h = search rules

pub returns-then-i-lt-NATIVES : goal.returns-then-i-lt-NATIVES
returns-then-i-lt-NATIVES c =
    let n = c.args.n.0 in
    let p = c.of_rank-p1 in
    let q = c.of_rank-p7 in
    let some : bases_of p.result q.result ≡ Some c.unwrap-logical.result = search rules in
    simp (lt-ltb n 540 (omega arith)) (ap Ok (native_bases n p.result q.result _ p.ensures q.ensures some _ c.new-automorphism.ensures))

pub unwrap-logical-requires : goal.unwrap-logical-requires
unwrap-logical-requires c =
    let n = c.args.n.0 in
    let p = c.of_rank-p1 in
    let q = c.of_rank-p7 in
    is_some c.new.result (λ e. pair_bases n p.result q.result p.ensures q.ensures (sym c.new.ensures ∙ e))
