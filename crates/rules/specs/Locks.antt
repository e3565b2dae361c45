-- What a lock means. Assumes nothing.
use Rattle.std.specs.Prelude.{ℕ, Bool, true, false, ◌||◌, List, [], ◌∷◌, replicate, slice_index_or, slice_set}
use Rattle.types.specs.declared.Entry.{Entry}
use Rattle.word.specs.Words.{Sizes, Word, fresh_word}
use Rattle.rules.specs.declared.Phase.{Phase}
use Rattle.rules.specs.declared.Phase.TheVariants.{Out, Claiming, AtQueueLock, Queueing, Queued, Holding, Owing, Passing}
use Rattle.rules.specs.declared.Row.{Row}

-- T, which is 0 before the lock is made, S, a row for each task number, the word and the queue.
pub record Lock : Type 0 where
  pub tasks : ℕ
  pub spin : ℕ
  pub rows : List Row
  pub word : Word
  pub queue : List Entry

-- A task that is out and has made no attempt.
abbrev pub out_row : Row
out_row = record { phase = Out; attempts = 0 }

-- A lock with all tasks out, a fresh word and an empty queue.
abbrev pub fresh_lock : Sizes → ℕ → ℕ → Lock
fresh_lock z tasks spin = record { tasks = tasks; spin = spin; rows = replicate 64 out_row; word = fresh_word z; queue = [] }

-- A lock that is not made yet.
abbrev pub blank_lock : Sizes → Lock
blank_lock z = fresh_lock z 0 0

-- A task's row.
abbrev pub row_of : ℕ → Lock → Row
row_of t l = slice_index_or l.rows t out_row

-- A task's phase.
abbrev pub phase_of : ℕ → Lock → Phase
phase_of t l = (row_of t l).phase

-- The lock with another row for a task.
abbrev pub with_row : ℕ → Row → Lock → Lock
with_row t row l = record { tasks = l.tasks; spin = l.spin; rows = slice_set l.rows t row; word = l.word; queue = l.queue }

-- The lock with another phase of a task.
abbrev pub with_phase : ℕ → Phase → Lock → Lock
with_phase t phase l = with_row t (record { phase = phase; attempts = (row_of t l).attempts }) l

-- The lock with another word.
abbrev pub with_word : Word → Lock → Lock
with_word w l = record { tasks = l.tasks; spin = l.spin; rows = l.rows; word = w; queue = l.queue }

-- The lock with another queue.
abbrev pub with_queue : List Entry → Lock → Lock
with_queue q l = record { tasks = l.tasks; spin = l.spin; rows = l.rows; word = l.word; queue = q }

-- Only a queueing or passing task has the queue lock.
abbrev pub has_queue_lock : Phase → Bool
has_queue_lock Out = false
has_queue_lock (Claiming d) = false
has_queue_lock (AtQueueLock d) = false
has_queue_lock (Queueing d) = true
has_queue_lock (Queued d) = false
has_queue_lock (Holding d) = false
has_queue_lock Owing = false
has_queue_lock Passing = true

-- Some task has the queue lock.
abbrev pub is_queue_locked : List Row → Bool
is_queue_locked [] = false
is_queue_locked (r ∷ rs) = has_queue_lock r.phase || is_queue_locked rs
