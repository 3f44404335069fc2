-- `Build::seed` meets its contract: a nonzero string is discovered at depth 0 with the number kept for it. Assumes nothing.
use mathlib.Core.Path.{sym, ap, ◌∙◌}
use mathlib.Core.Bool.{true}
use Prim.Native.Nat.{ℕ}
use native.Mathlib.Omega.{arith}
use Rattle.natives.specs.Arrays.{at}
use Rattle.natives.proofs.Kept.{keeper_for}
use Rattle.table.specs.Entries.{value}
use Rattle.discovery.specs.Model.{discover}
use Rattle.discovery.specs.Builds.{held}
use Rattle.discovery.proofs.Model.{seed_none, seed_some}
use Rattle.discovery.proofs.Build.seed.Goals as goal

pub returns-then-x-eq0-clause-comes : goal.returns-then-x-eq0-clause-comes
returns-then-x-eq0-clause-comes c =
    let a = c.args in
    record { to = sym (seed_none (at a.natives.now.strings) a.n (held true a.self.now) c.if-x-eq0.true); notes = c.requires.sound.0.notes }

pub overflow_cast-k : goal.overflow_cast-k
overflow_cast-k c =
    omega (arith, c.kept_number_unchecked-k.ensures, (keeper_for (at c.args.natives.now.strings) c.args.n c.requires.below).below)

pub discover_unchecked-requires-clause-asks : goal.discover_unchecked-requires-clause-asks
discover_unchecked-requires-clause-asks c = record {
  small = c.args.natives.now.held.small c.args.n;
  native_below = omega (arith, c.kept_number_unchecked-k.ensures, (keeper_for (at c.args.natives.now.strings) c.args.n c.requires.below).below);
  low = omega arith;
}

pub returns-clause-comes : goal.returns-clause-comes
returns-clause-comes c =
    let a = c.args in
    let f = at a.natives.now.strings in
    let s = held true a.self.now in
    record {
      to =
          c.discover_unchecked.ensures.comes.to
          ∙ ap (λ (n : ℕ). discover (f a.n) (value 0 n) s) c.kept_number_unchecked-k.ensures
          ∙ sym (seed_some f a.n s c.if-x-eq0.false);
      notes = c.discover_unchecked.ensures.comes.notes;
    }
