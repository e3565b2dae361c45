-- What each call answers and leaves. Assumes nothing.
use Rattle.std.specs.Prelude.{ℕ, ◌+◌, ◌%◌, min, Bool, false, cond, not, ◌&&◌, ◌||◌, List, [], ◌∷◌, length, Some, None, Ok, Err, Option, Result, ◌==◌, nat_le, nat_lt}
use Rattle.types.specs.declared.Direction.{Direction}
use Rattle.types.specs.declared.Direction.TheVariants.{Read, Write}
use Rattle.types.specs.declared.Entry.{Entry}
use Rattle.types.specs.declared.Verb.{Verb}
use Rattle.types.specs.declared.Verb.TheVariants.{ClaimRead, ClaimWrite, Move, Leave}
use Rattle.types.specs.declared.Outcome.{Outcome}
use Rattle.types.specs.declared.Outcome.TheVariants.{Claimed, Granted, Again, ToQueueLock, HasQueueLock, Busy, Queued as QueuedUp, Out as LeftOut, Owes, Passed}
use Rattle.types.specs.declared.Refusal.{Refusal}
use Rattle.types.specs.declared.Refusal.TheVariants.{AlreadyMade, TasksOutOfRange, SpinOutOfRange, ArchiveFull, NotMade, NoSuchTask, NotOut, CannotMove, NoticesFull, HoldsNothing}
use Rattle.word.specs.Words.{Sizes, Word, all_zero, can_enter_to_read, enter_to_read, can_enter_to_write, enter_to_write, leave_reading, can_leave_writing, leave_writing, mark_waiters, pass_to_writer, pass_to_readers, admit_reader}
use Rattle.queue.specs.Queues.{is_reader, has_reader, join}
use Rattle.rules.specs.declared.Phase.{Phase}
use Rattle.rules.specs.declared.Phase.TheVariants.{Out, Claiming, AtQueueLock, Queueing, Queued, Holding, Owing, Passing}
use Rattle.rules.specs.Locks.{Lock, fresh_lock, row_of, phase_of, with_row, with_phase, with_word, with_queue, is_queue_locked}

-- What an accepted call came to: its outcome, the tasks taken in queue order, and the lock afterwards.
pub record Done : Type 0 where
  pub outcome : Outcome
  pub taken : List Entry
  pub lock : Lock

-- An outcome that takes no task.
abbrev pub plain : Outcome → Lock → Done
plain o l = record { outcome = o; taken = []; lock = l }

-- A call is refused, and nothing alters, or it is accepted.
pub data Answer : Type 0 where
  refused : Refusal → Answer
  accepted : Done → Answer

-- The free places of the two rings.
pub record Room : Type 0 where
  pub notices : ℕ
  pub archive : ℕ

-- Room for every call: 64 notices, and their words with the two of the call.
abbrev pub ample : Room
ample = record { notices = 64; archive = 66 }

-- The group of a task.
abbrev pub group_of : Sizes → ℕ → ℕ
group_of z t = t % z.groups

-- The word lets the task enter in that direction.
abbrev pub can_enter : Sizes → ℕ → Direction → Word → Bool
can_enter z t Read w = can_enter_to_read z (group_of z t) w
can_enter z t Write w = can_enter_to_write w

-- The word after the task tried to enter in that direction.
abbrev pub enter : Sizes → ℕ → Direction → Word → Word
enter z t Read w = enter_to_read z (group_of z t) w
enter z t Write w = enter_to_write w

-- The attempts made, with one more; they stay at 65,535.
abbrev pub one_more_attempt : ℕ → ℕ
one_more_attempt attempts = min (attempts + 1) 65535

-- The task's row after an attempt that leaves it in that phase.
abbrev pub attempted : ℕ → Phase → Lock → Lock
attempted t phase l = with_row t (record { phase = phase; attempts = one_more_attempt (row_of t l).attempts }) l

-- The attempt said yes, and the task holds.
abbrev pub granted : Sizes → ℕ → Direction → Lock → Done
granted z t d l = plain (Granted (one_more_attempt (row_of t l).attempts)) (attempted t (Holding d) (with_word (enter z t d l.word) l))

-- The attempt said no: again while the attempts are at most S, else to the queue lock.
abbrev pub in_vain : ℕ → Direction → Lock → Done
in_vain t d l =
    cond (nat_le (one_more_attempt (row_of t l).attempts) l.spin)
    (plain (Again (one_more_attempt (row_of t l).attempts)) (attempted t (Claiming d) l))
    (plain (ToQueueLock (one_more_attempt (row_of t l).attempts)) (attempted t (AtQueueLock d) l))

-- The task joins the queue, and its waiters mark goes on.
abbrev pub queued_up : ℕ → Direction → Lock → Done
queued_up t d l = plain (QueuedUp (one_more_attempt (row_of t l).attempts)) (attempted t (Queued d) (with_queue (join t d l.queue) (with_word (mark_waiters d l.word) l)))

-- The task gets the queue lock and goes on in that phase, unless another has it.
abbrev pub queue_lock_tried : ℕ → Phase → Lock → Done
queue_lock_tried t phase l = cond (is_queue_locked l.rows) (plain Busy l) (plain HasQueueLock (with_phase t phase l))

-- Some entry waits to write.
abbrev pub has_writer : List Entry → Bool
has_writer [] = false
has_writer (e ∷ es) = not (is_reader e) || has_writer es

-- The readers at the front of the queue.
abbrev pub front_readers : List Entry → List Entry
front_readers [] = []
front_readers (e ∷ es) = cond (is_reader e) (e ∷ front_readers es) []

-- The queue behind the readers at its front.
abbrev pub behind_readers : List Entry → List Entry
behind_readers [] = []
behind_readers (e ∷ es) = cond (is_reader e) (behind_readers es) (e ∷ es)

-- Each of the readers is admitted.
abbrev pub admitted : Sizes → List Entry → Word → Word
admitted z [] w = w
admitted z (e ∷ es) w = admitted z es (admit_reader z (group_of z e.task) w)

-- Each of the tasks holds, in its direction.
abbrev pub holding_all : List Entry → Lock → Lock
holding_all [] l = l
holding_all (e ∷ es) l = holding_all es (with_phase e.task (Holding e.direction) l)

-- The passing task is out, and the tasks taken hold.
abbrev pub passed_to : ℕ → List Entry → Word → List Entry → Lock → Done
passed_to t taken w rest l = record { outcome = Passed (length taken); taken = taken; lock = holding_all taken (with_phase t Out (with_queue rest (with_word w l))) }

-- Readers at the front are all taken and admitted, and W-waiters tells whether writers remain.
abbrev pub passed_to_readers : Sizes → ℕ → Lock → Done
passed_to_readers z t l = passed_to t (front_readers l.queue) (admitted z (front_readers l.queue) (pass_to_readers (has_writer (behind_readers l.queue)) l.word)) (behind_readers l.queue) l

-- A writer at the front is taken alone, and both waiters marks tell what remains.
abbrev pub passed : Sizes → ℕ → Lock → List Entry → Done
passed z t l [] = passed_to_readers z t l
passed z t l (e ∷ es) = cond (is_reader e) (passed_to_readers z t l) (passed_to t (e ∷ []) (pass_to_writer (has_writer es) (has_reader es) l.word) es l)

-- What a move comes to in each phase; none where the task has nothing to do.
abbrev pub moved : Sizes → ℕ → Lock → Phase → Option Done
moved z t l Out = None
moved z t l (Claiming d) = Some (cond (can_enter z t d l.word) (granted z t d l) (in_vain t d l))
moved z t l (AtQueueLock d) = Some (queue_lock_tried t (Queueing d) l)
moved z t l (Queueing d) = Some (cond (can_enter z t d l.word) (granted z t d l) (queued_up t d l))
moved z t l (Queued d) = None
moved z t l (Holding d) = None
moved z t l Owing = Some (queue_lock_tried t Passing l)
moved z t l Passing = Some (passed z t l l.queue)

-- A claim puts a task that is out into claiming with no attempts made.
abbrev pub claimed : ℕ → Direction → Lock → Phase → Option Done
claimed t d l Out = Some (plain Claimed (with_row t (record { phase = Claiming d; attempts = 0 }) l))
claimed t d l (Claiming d') = None
claimed t d l (AtQueueLock d') = None
claimed t d l (Queueing d') = None
claimed t d l (Queued d') = None
claimed t d l (Holding d') = None
claimed t d l Owing = None
claimed t d l Passing = None

-- A leave that owes nothing, or that must pass the lock on.
abbrev pub gone : Bool → ℕ → Word → Lock → Done
gone owes t w l = cond owes (plain Owes (with_phase t Owing (with_word w l))) (plain LeftOut (with_phase t Out (with_word w l)))

-- A reader that has left owes when all counts are now 0 and a waiters mark is on.
abbrev pub reader_owes : Word → Bool
reader_owes w = all_zero w.counts && (w.writers_wait || w.readers_wait)

-- A leaving reader lowers its count.
abbrev pub reader_gone : Sizes → ℕ → Lock → Done
reader_gone z t l = gone (reader_owes (leave_reading z (group_of z t) l.word)) t (leave_reading z (group_of z t) l.word) l

-- A leaving writer owes unless leaving the word said yes.
abbrev pub writer_gone : ℕ → Lock → Done
writer_gone t l = gone (not (can_leave_writing l.word)) t (leave_writing l.word) l

-- What a leave comes to; none where the task holds nothing.
abbrev pub leaving : Sizes → ℕ → Lock → Phase → Option Done
leaving z t l Out = None
leaving z t l (Claiming d) = None
leaving z t l (AtQueueLock d) = None
leaving z t l (Queueing d) = None
leaving z t l (Queued d) = None
leaving z t l (Holding Read) = Some (reader_gone z t l)
leaving z t l (Holding Write) = Some (writer_gone t l)
leaving z t l Owing = None
leaving z t l Passing = None

-- What a task's call comes to by its phase.
abbrev pub effect : Sizes → Verb → ℕ → Lock → Option Done
effect z ClaimRead t l = claimed t Read l (phase_of t l)
effect z ClaimWrite t l = claimed t Write l (phase_of t l)
effect z Move t l = moved z t l (phase_of t l)
effect z Leave t l = leaving z t l (phase_of t l)

-- The refusal of a call that the task's phase does not allow.
abbrev pub unfit : Verb → Refusal
unfit ClaimRead = NotOut
unfit ClaimWrite = NotOut
unfit Move = CannotMove
unfit Leave = HoldsNothing

-- The notices need a place for each task taken, the archive two places more.
abbrev pub recorded : Refusal → Room → Option Done → Answer
recorded r room None = refused r
recorded r room (Some d) =
    cond (nat_lt room.notices (length d.taken)) (refused NoticesFull)
    (cond (nat_lt room.archive (2 + length d.taken)) (refused ArchiveFull) (accepted d))

-- A claim, move or leave.
abbrev pub step : Sizes → Verb → ℕ → Room → Lock → Answer
step z verb t room l =
    cond (l.tasks == 0) (refused NotMade)
    (cond (nat_le l.tasks t) (refused NoSuchTask) (recorded (unfit verb) room (effect z verb t l)))

-- The lock after a call.
abbrev pub after : Lock → Answer → Lock
after l (refused r) = l
after l (accepted d) = d.lock

-- A making: the lock afterwards, or the refusal.
abbrev pub make : Sizes → ℕ → ℕ → ℕ → Lock → Result Lock Refusal
make z tasks spin room l =
    cond (not (l.tasks == 0)) (Err AlreadyMade)
    (cond (tasks == 0 || nat_lt 64 tasks) (Err TasksOutOfRange)
    (cond (nat_lt 255 spin) (Err SpinOutOfRange)
    (cond (room == 0) (Err ArchiveFull) (Ok (fresh_lock z tasks spin)))))

-- The lock after a making.
abbrev pub after_making : Lock → Result Lock Refusal → Lock
after_making l (Ok l') = l'
after_making l (Err r) = l
