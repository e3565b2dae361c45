-- What a chain of places means: the entries met along it, and the facts that hold of it between calls. Assumes nothing.
use Rattle.std.specs.Prelude.{◌≡◌, ℕ, zero, suc, ◌+◌, ◌<◌, true, false, cond, ◌||◌, List, [], ◌∷◌, length, ◌==◌, slice_index_or}
use Rattle.types.specs.declared.Direction.{Direction}
use Rattle.types.specs.declared.Direction.TheVariants.{Read, Write}
use Rattle.types.specs.declared.Entry.{Entry}
use Rattle.queue.specs.Queues.{is_reader, has_reader, reader_count, has_task, tasks_in_range, no_task_twice, readers_are_neighbours, can_join}
use Rattle.chain.specs.declared.places.Place.{Place}
use Rattle.chain.specs.declared.places.Links.{Links}

-- The entry of a task.
abbrev pub entry_of : ℕ → Direction → Entry
entry_of task direction = record { task = task; direction = direction }

-- The place of a task.
abbrev pub place_at : List Place → ℕ → Place
place_at places task = slice_index_or places task (record { next = 0; direction = Read; present = false })

-- The entries met on that many steps along the chain, from that place on.
abbrev pub walk : List Place → ℕ → ℕ → List Entry
walk places zero task = []
walk places (suc n) task = entry_of task (place_at places task).direction ∷ walk places n (place_at places task).next

-- The queue that the links hold: the walk from the first place, as long as the queue.
abbrev pub held : Links → List Entry
held links = walk links.places links.len links.head

-- The task of the last entry, or 64.
abbrev pub last_task : List Entry → ℕ
last_task [] = 64
last_task (e ∷ []) = e.task
last_task (e ∷ next ∷ es) = last_task (next ∷ es)

-- The task of the last reader, or 64.
abbrev pub last_reader_of : List Entry → ℕ
last_reader_of [] = 64
last_reader_of (e ∷ es) = cond (has_reader es) (last_reader_of es) (cond (is_reader e) e.task 64)

-- A writer goes behind the last entry, a reader behind the last reader if there is one; 64 when the list is empty.
abbrev pub goes_behind : Direction → List Entry → ℕ
goes_behind Read es = cond (last_reader_of es == 64) (last_task es) (last_reader_of es)
goes_behind Write es = last_task es

-- The new entry directly behind that of a task, or at the end where the list has no such task.
abbrev pub behind_task : ℕ → Entry → List Entry → List Entry
behind_task task new [] = new ∷ []
behind_task task new (e ∷ es) = cond (e.task == task) (e ∷ new ∷ es) (e ∷ behind_task task new es)

-- A task's place says whether the task is in the list.
abbrev pub Flagged : List Place → List Entry → Type 0
Flagged places es = (task : ℕ) → task < 64 → (place_at places task).present ≡ has_task task es

-- The laws of a queue.
abbrev pub Laws : List Entry → Type 0
Laws es = (tasks_in_range es ≡ true) × (no_task_twice es ≡ true) × (readers_are_neighbours es ≡ true)

-- There are 64 places, and flags, last place, last reader and number of readers agree with the queue.
abbrev pub Agrees : Links → Type 0
Agrees links =
    (length links.places ≡ 64)
    × Flagged links.places (held links)
    × (links.tail ≡ last_task (held links))
    × (links.last_reader ≡ last_reader_of (held links))
    × (links.readers ≡ reader_count (held links))

-- The last reader after a task has joined: the task if it reads, else the one before.
abbrev pub reader_after : Direction → ℕ → ℕ → ℕ
reader_after Read task before = task
reader_after Write task before = before

-- One for a reader, none for a writer.
abbrev pub readers_in : Direction → ℕ
readers_in Read = 1
readers_in Write = 0

-- The links where a task that joins behind another is last, if that one was, and is the last reader and counted, if it reads.
abbrev pub remembered : ℕ → ℕ → Direction → Links → Links
remembered behind task direction links =
    record {
      places = links.places;
      head = links.head;
      tail = cond (behind == links.tail) task links.tail;
      last_reader = reader_after direction task links.last_reader;
      readers = links.readers + readers_in direction;
      len = links.len;
    }

-- A task may join, and the task that it goes behind is in the queue unless that is empty.
pub record Linkable (links : Links) (behind task : ℕ) : Type 0 where
  pub full : length links.places ≡ 64
  pub once : no_task_twice (held links) ≡ true
  pub can : can_join task (held links) ≡ true
  pub room : links.len < 64
  pub known : 0 < links.len → (behind < 64) × (has_task behind (held links) ≡ true)

-- The new entry is behind that of the task, and its flag is on; the other flags, the last place, the last reader and the number of readers are as before.
pub record Linked (before after : Links) (behind task : ℕ) (direction : Direction) : Type 0 where
  pub queue : held after ≡ behind_task behind (entry_of task direction) (held before)
  pub flags : (k : ℕ) → (place_at after.places k).present ≡ (task == k || (place_at before.places k).present)
  pub full : length after.places ≡ 64
  pub tail : after.tail ≡ before.tail
  pub reader : after.last_reader ≡ before.last_reader
  pub count : after.readers ≡ before.readers
