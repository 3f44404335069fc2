-- `Build::discover_unchecked` meets its contract: a string without an entry leaves room in the queue and for its value, and what is put is the
-- model's. Assumes nothing.
use native.Mathlib.Omega.{arith}
use Rattle.pauli_string.specs.Strings.{qubits}
use Rattle.table.specs.Entries.{value}
use Rattle.discovery.specs.States.{twelve}
use Rattle.discovery.proofs.Short.{is_short, queue_long, rooms, found_old, found_new}
use Rattle.discovery.proofs.Build.discover_unchecked.Goals as goal

pub invariant_of-has-2 : goal.invariant_of-has-2
invariant_of-has-2 g c =
    let b = c.args.self.now in
    record { whole = queue_long (is_short g.row.SHORT) qubits twelve b.table.now b.queue.now b.count c.args.x c.args.depth c.args.n c.requires.sound.0.good c.requires.asks }

pub returns-then-has-clause-comes : goal.returns-then-has-clause-comes
returns-then-has-clause-comes g c =
    let b = c.args.self.now in
    record {
      to = found_old (is_short g.row.SHORT) qubits twelve b.table.now b.queue.now b.count c.args.x c.args.depth c.args.n c.requires.sound.0.good c.requires.asks (c.has.ensures.0 c.if-has.true);
      notes = c.requires.sound.0.notes;
    }

pub overflow_mul-depth : goal.overflow_mul-depth
overflow_mul-depth g c =
    let b = c.args.self.now in
    omega (arith, rooms (is_short g.row.SHORT) qubits twelve b.table.now b.queue.now b.count c.args.x c.args.depth c.args.n c.requires.sound.0.good c.requires.asks (c.has.ensures.1 c.if-has.false))

pub overflow_add-depth : goal.overflow_add-depth
overflow_add-depth g c =
    let b = c.args.self.now in
    omega (arith, rooms (is_short g.row.SHORT) qubits twelve b.table.now b.queue.now b.count c.args.x c.args.depth c.args.n c.requires.sound.0.good c.requires.asks (c.has.ensures.1 c.if-has.false))

pub put_unchecked-requires-2 : goal.put_unchecked-requires-2
put_unchecked-requires-2 g c =
    let b = c.args.self.now in (
      omega (arith, rooms (is_short g.row.SHORT) qubits twelve b.table.now b.queue.now b.count c.args.x c.args.depth c.args.n c.requires.sound.0.good c.requires.asks (c.has.ensures.1 c.if-has.false)),
      queue_long (is_short g.row.SHORT) qubits twelve b.table.now b.queue.now b.count c.args.x c.args.depth c.args.n c.requires.sound.0.good c.requires.asks,
    )

pub overflow_add-self : goal.overflow_add-self
overflow_add-self g c =
    let b = c.args.self.now in
    omega (arith, rooms (is_short g.row.SHORT) qubits twelve b.table.now b.queue.now b.count c.args.x c.args.depth c.args.n c.requires.sound.0.good c.requires.asks (c.has.ensures.1 c.if-has.false))

pub returns-clause-comes : goal.returns-clause-comes
unfolding value
returns-clause-comes g c =
    let b = c.args.self.now in
    let o = found_new (is_short g.row.SHORT) qubits twelve b.table.now b.queue.now b.count c.args.x c.args.depth c.args.n c.requires.sound.0.good c.requires.asks c.put_unchecked.new.table c.note.new.queue
    (omega (arith, queue_long (is_short g.row.SHORT) qubits twelve b.table.now b.queue.now b.count c.args.x c.args.depth c.args.n c.requires.sound.0.good c.requires.asks, c.requires.asks.small))
    c.requires.sound.1 c.requires.sound.0.notes (c.has.ensures.1 c.if-has.false) c.put_unchecked.ensures (rw c.put_unchecked-2.ensures at c.note.ensures) in
    record { to = o.0; notes = o.1 }
