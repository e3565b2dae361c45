-- The lock that a state means. Assumes nothing.
use Rattle.std.specs.Prelude.{List}
use Rattle.types.specs.declared.Entry.{Entry}
use Rattle.word.specs.Words.{Word}
use Rattle.rules.specs.Locks.{Lock}
use Rattle.lock.specs.declared.state.State.{State}

-- The lock with the state's rows, and with what its word and its queue mean.
abbrev pub lock_of : {W Q : Type 0} → (W → Word) → (Q → List Entry) → State W Q → Lock
lock_of word entries s = record { tasks = s.tasks; spin = s.spin; rows = s.rows; word = word s.word; queue = entries s.queue }
