-- `builder::build_from` meets its contract: the state after each part of the work is the model's, and what is answered is counted in it.
-- Assumes nothing.
use mathlib.Core.Path.{◌≡◌, sym, ap, subst, ◌∙◌}
use mathlib.Core.Bool.{false}
use Prim.Native.Nat.{◌^◌}
use native.Mathlib.Omega.{arith}
use Rattle.std.proofs.Common.{rules}
use Rattle.bicycle_common.specs.Ranges.{in_turn}
use Rattle.pauli_string.specs.Strings.{qubits}
use Rattle.natives.specs.Arrays.{at}
use Rattle.discovery.specs.Model.{expand, built}
use Rattle.discovery.specs.States.{twelve, Good}
use Rattle.discovery.specs.Builds.{held}
use Rattle.discovery.proofs.States.{count_below}
use Rattle.discovery.proofs.Meets.{seeded_good, built_good}
use Rattle.builder.proofs.Answers.{built_outcome}
use Rattle.builder.proofs.build_from.Goals as goal
use Rattle.builder.proofs.build_from.Goals.{After-search_unchecked}

-- after the search the state is the model's
searched : (c : After-search_unchecked) → held false c.search_unchecked.new.b ≡ built qubits (at c.args.natives.now.strings)
unfolding built
searched c = c.search_unchecked.ensures.searched ∙ ap (in_turn (4 ^ qubits) (expand qubits (at c.args.natives.now.strings))) c.seeds_unchecked.ensures.comes.to

-- and in range
good : (c : After-search_unchecked) → Good qubits (held false c.search_unchecked.new.b)
good c = subst (Good qubits) (sym (searched c)) (built_good qubits twelve (at c.args.natives.now.strings) c.args.natives.now.held.small)

pub search_unchecked-requires : goal.search_unchecked-requires
search_unchecked-requires c =
    let n = c.args.natives.now in
    let e = c.seeds_unchecked.ensures.comes in
    record { good = subst (Good qubits) (sym e.to) (seeded_good qubits twelve (at n.strings) n.held.small); notes = e.notes }

pub invariant_of-deepest : goal.invariant_of-deepest
invariant_of-deepest c = record { whole = (good (goal.at.invariant_of-deepest c).After-search_unchecked).table_long }

pub overflow_add-result : goal.overflow_add-result
overflow_add-result c =
    let s = (goal.at.overflow_add-result c).After-search_unchecked in
    omega (arith, count_below qubits (held false c.search_unchecked.new.b) (good s))

pub returns : goal.returns
returns c =
    let s = (goal.at.returns c).After-search_unchecked in
    let b = c.search_unchecked.new.b in
    let f = at c.args.natives.now.strings in
    built_outcome qubits _ _ b.table.now b.queue.now b.count c.deepest-d.result (built qubits f) (search rules) (search rules) (searched s)
    (built_good qubits twelve f c.args.natives.now.held.small) c.deepest-d.ensures
