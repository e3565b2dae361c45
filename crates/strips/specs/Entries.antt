-- What the three parts hold, as the list of entries of a wait queue. Assumes nothing.
use Rattle.std.specs.Prelude.{◌≡◌, ℕ, ◌<◌, Bool, false, List, ◌++◌, map, slice_index_or}
use Rattle.types.specs.declared.Direction.{Direction}
use Rattle.types.specs.declared.Direction.TheVariants.{Read, Write}
use Rattle.types.specs.declared.Entry.{Entry}
use Rattle.queue.specs.Queues.{has_task}
use Rattle.strips.specs.declared.parts.Parts.{Parts}
use Rattle.strips.specs.Tasks.{tasks_of}

-- A task with its direction.
abbrev pub entry_of : Direction → ℕ → Entry
entry_of d t = record { task = t; direction = d }

-- The tasks as entries of one direction, in the same order.
abbrev pub entries_as : Direction → List ℕ → List Entry
entries_as d ts = map (entry_of d) ts

-- Writers, then readers, then writers.
unfoldable pub lined : List ℕ → List ℕ → List ℕ → List Entry
lined ws rs vs = entries_as Write ws ++ (entries_as Read rs ++ entries_as Write vs)

-- The entries of the queue: those ahead as writers, the readers, and those behind as writers.
abbrev pub entries_of : Parts → List Entry
entries_of p = lined (tasks_of p.ahead) (tasks_of p.readers) (tasks_of p.behind)

-- The flag of each task from 0 to 63 tells whether the task is in the list.
abbrev pub Flagged : List Bool → List Entry → Type 0
Flagged flags es = (t : ℕ) → t < 64 → slice_index_or flags t false ≡ has_task t es
