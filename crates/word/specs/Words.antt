-- What a lock word means, and what each of its functions answers and leaves. Assumes nothing.
use Rattle.std.specs.Prelude.{ℕ, zero, suc, ◌+◌, ◌-◌, ◌%◌, Bool, true, false, cond, not, ◌&&◌, List, [], ◌∷◌, replicate, ◌==◌, nat_lt, slice_index, slice_set}
use Rattle.types.specs.declared.Direction.{Direction}
use Rattle.types.specs.declared.Direction.TheVariants.{Read, Write}

-- The number of groups of a kind of word, and the greatest count of any group.
pub record Sizes : Type 0 where
  pub groups : ℕ
  pub limit : ℕ

-- W-locked, W-waiters, R-waiters, and the reader count of each group.
pub record Word : Type 0 where
  pub locked : Bool
  pub writers_wait : Bool
  pub readers_wait : Bool
  pub counts : List ℕ

-- The reader count of a group, 0 past the last group.
abbrev pub count : ℕ → Word → ℕ
count g w = slice_index w.counts g

-- How many of the task numbers below n are in group g, where a task's group is the remainder of its number.
unfoldable pub tasks_below : ℕ → ℕ → ℕ → ℕ
tasks_below groups g zero = 0
tasks_below groups g (suc t) = cond (t % groups == g) 1 0 + tasks_below groups g t

-- How many of the task numbers 0 to 63 are in group g.
abbrev pub tasks_in_group : ℕ → ℕ → ℕ
tasks_in_group groups g = tasks_below groups g 64

-- All numbers of the list are 0.
abbrev pub all_zero : List ℕ → Bool
all_zero [] = true
all_zero (n ∷ ns) = n == 0 && all_zero ns

abbrev pub marked : Bool → Bool → Bool → Word → Word
marked locked writers readers w = record { locked = locked; writers_wait = writers; readers_wait = readers; counts = w.counts }

abbrev pub counted : ℕ → ℕ → Word → Word
counted g n w = record { locked = w.locked; writers_wait = w.writers_wait; readers_wait = w.readers_wait; counts = slice_set w.counts g n }

-- All marks off and all counts 0.
abbrev pub fresh_word : Sizes → Word
fresh_word z = record { locked = false; writers_wait = false; readers_wait = false; counts = replicate z.groups 0 }

-- A reader may enter while no writer has the lock or waits, and its group has room.
abbrev pub can_enter_to_read : Sizes → ℕ → Word → Bool
can_enter_to_read z g w = nat_lt g z.groups && (not w.locked && (not w.writers_wait && nat_lt (count g w) z.limit))

-- The count rises by one.
abbrev pub enter_to_read : Sizes → ℕ → Word → Word
enter_to_read z g w = cond (can_enter_to_read z g w) (counted g (count g w + 1) w) w

-- A writer may enter when all marks are off and all counts are 0.
abbrev pub can_enter_to_write : Word → Bool
can_enter_to_write w = not w.locked && (not w.writers_wait && (not w.readers_wait && all_zero w.counts))

-- W-locked goes on.
abbrev pub enter_to_write : Word → Word
enter_to_write w = cond (can_enter_to_write w) (marked true w.writers_wait w.readers_wait w) w

-- A reader may leave a group whose count is above 0.
abbrev pub can_leave_reading : Sizes → ℕ → Word → Bool
can_leave_reading z g w = nat_lt g z.groups && nat_lt 0 (count g w)

-- The count falls by one.
abbrev pub leave_reading : Sizes → ℕ → Word → Word
leave_reading z g w = cond (can_leave_reading z g w) (counted g (count g w - 1) w) w

-- A writer may leave for good while W-locked is on and nobody waits.
abbrev pub can_leave_writing : Word → Bool
can_leave_writing w = w.locked && (not w.writers_wait && not w.readers_wait)

-- W-locked goes off.
abbrev pub leave_writing : Word → Word
leave_writing w = cond (can_leave_writing w) (marked false w.writers_wait w.readers_wait w) w

-- The waiters mark of that direction goes on.
abbrev pub mark_waiters : Direction → Word → Word
mark_waiters Read w = marked w.locked w.writers_wait true w
mark_waiters Write w = marked w.locked true w.readers_wait w

-- The lock may be passed to a writer when all counts are 0.
abbrev pub can_pass_to_writer : Word → Bool
can_pass_to_writer w = all_zero w.counts

-- W-locked goes on, and both waiters marks become what the caller says.
abbrev pub pass_to_writer : Bool → Bool → Word → Word
pass_to_writer writers readers w = cond (can_pass_to_writer w) (marked true writers readers w) w

-- W-locked and R-waiters go off, and W-waiters becomes what the caller says.
abbrev pub pass_to_readers : Bool → Word → Word
pass_to_readers writers w = marked false writers false w

-- A waiting reader may be admitted while W-locked is off and its group has room.
abbrev pub can_admit_reader : Sizes → ℕ → Word → Bool
can_admit_reader z g w = nat_lt g z.groups && (not w.locked && nat_lt (count g w) z.limit)

-- The count rises by one.
abbrev pub admit_reader : Sizes → ℕ → Word → Word
admit_reader z g w = cond (can_admit_reader z g w) (counted g (count g w + 1) w) w
