-- What a build holds in its two lent buffers. Assumes nothing.
use Rattle.std.specs.Prelude.{Bool, ◌≡◌, ℕ}
use Rattle.discovery.specs.declared.Build.{Build}
use Rattle.discovery.specs.Model.{State, state}
use Rattle.discovery.specs.States.{Good}
use Rattle.discovery.specs.Short.{strung, Notes}

-- the table, the strings of the queue, and their count
abbrev pub held : Bool → Build → State
held short b = state b.table.now (strung short b.queue.now) b.count

-- in range, and a short queue has its digits
pub record Sound (short : Bool) (q : ℕ) (b : Build) : Type 0 where
  pub good : Good q (held short b)
  pub notes : Notes short q b.queue.now b.table.now

-- the buffers are the same two
abbrev pub Lent : Build → Build → Type 0
Lent a b = (b.table.ghost_name ≡ a.table.ghost_name) × (b.queue.ghost_name ≡ a.queue.ghost_name)

-- state s is held, and a short queue has its digits
pub record Comes (short : Bool) (q : ℕ) (b : Build) (s : State) : Type 0 where
  pub to : held short b ≡ s
  pub notes : Notes short q b.queue.now b.table.now
