-- What a wait queue means: its laws, and what each of its functions answers and leaves. Assumes nothing.
use Rattle.std.specs.Prelude.{ℕ, zero, suc, ◌+◌, Bool, true, false, cond, not, ◌&&◌, ◌||◌, List, [], ◌∷◌, ◌++◌, Some, None, Option, ◌==◌, nat_lt}
use Rattle.types.specs.declared.Direction.{Direction}
use Rattle.types.specs.declared.Direction.TheVariants.{Read, Write}
use Rattle.types.specs.declared.Entry.{Entry}

abbrev reads : Direction → Bool
reads Read = true
reads Write = false

-- The entry waits to read.
abbrev pub is_reader : Entry → Bool
is_reader e = reads e.direction

-- Some entry waits to read.
abbrev pub has_reader : List Entry → Bool
has_reader [] = false
has_reader (e ∷ es) = is_reader e || has_reader es

-- How many entries wait to read.
abbrev pub reader_count : List Entry → ℕ
reader_count [] = 0
reader_count (e ∷ es) = cond (is_reader e) 1 0 + reader_count es

-- Some entry is of that task.
abbrev pub has_task : ℕ → List Entry → Bool
has_task task [] = false
has_task task (e ∷ es) = e.task == task || has_task task es

-- The tasks are 0 to 63.
abbrev pub tasks_in_range : List Entry → Bool
tasks_in_range [] = true
tasks_in_range (e ∷ es) = nat_lt e.task 64 && tasks_in_range es

-- No task is in the list twice.
abbrev pub no_task_twice : List Entry → Bool
no_task_twice [] = true
no_task_twice (e ∷ es) = not (has_task e.task es) && no_task_twice es

-- Readers, if any, and then writers only.
abbrev pub readers_first : List Entry → Bool
readers_first [] = true
readers_first (e ∷ es) = cond (is_reader e) (readers_first es) (not (has_reader es))

-- Readers are neighbours: writers, then readers, then writers.
abbrev pub readers_are_neighbours : List Entry → Bool
readers_are_neighbours [] = true
readers_are_neighbours (e ∷ es) = cond (is_reader e) (readers_first es) (readers_are_neighbours es)

-- A task may join when its number is 0 to 63 and it is not in the queue.
abbrev pub can_join : ℕ → List Entry → Bool
can_join task es = nat_lt task 64 && not (has_task task es)

-- The entry goes directly behind the last reader, or to the end when there is none.
abbrev pub behind_last_reader : Entry → List Entry → List Entry
behind_last_reader new [] = new ∷ []
behind_last_reader new (e ∷ es) = cond (is_reader e && not (has_reader es)) (e ∷ new ∷ es) (e ∷ behind_last_reader new es)

-- A writer goes to the end, a reader directly behind the last reader.
abbrev pub placed : ℕ → Direction → List Entry → List Entry
placed task Read es = behind_last_reader (record { task = task; direction = Read }) es
placed task Write es = es ++ (record { task = task; direction = Write } ∷ [])

-- The queue after a join, unaltered where the task may not join.
abbrev pub join : ℕ → Direction → List Entry → List Entry
join task direction es = cond (can_join task es) (placed task direction es) es

-- The first entry, or none.
abbrev pub first : List Entry → Option Entry
first [] = None
first (e ∷ es) = Some e

-- The queue without its first entry.
abbrev pub rest : List Entry → List Entry
rest [] = []
rest (e ∷ es) = es

-- The entry at a place, from 0, or none from the length up.
abbrev pub entry_at : ℕ → List Entry → Option Entry
entry_at place [] = None
entry_at zero (e ∷ es) = Some e
entry_at (suc place) (e ∷ es) = entry_at place es
