-- `Build::seeds_unchecked` meets its contract: after n natives the state is the model's, and in range. Assumes nothing.
use mathlib.Core.Bool.{true}
use Prim.Native.Nat.{◌≤◌}
use Rattle.bicycle_common.specs.Ranges.{in_turn}
use Rattle.pauli_string.specs.Strings.{qubits}
use Rattle.natives.specs.Arrays.{at}
use Rattle.discovery.specs.Model.{begun, seed}
use Rattle.discovery.specs.States.{Good}
use Rattle.discovery.specs.Builds.{held, Lent, Comes}
use Rattle.discovery.proofs.Build.seeds_unchecked.Given as goal

abbrev pub invariant-loop-n : goal.invariant-loop-n
invariant-loop-n l = record {
  lent : Lent l.initial.self l.self;
  good : Good qubits (held true l.self);
  comes : Comes true qubits l.self (in_turn l.n (seed (at l.natives.strings)) (begun qubits));
  few : l.self.count ≤ l.n;
}
