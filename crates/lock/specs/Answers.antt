-- What the calls answer, by the rules. Assumes nothing.
use Rattle.std.specs.Prelude.{◌≡◌, ℕ, cond, length, Some, None, Ok, Err, Option, Result, ◌==◌, nat_le}
use Rattle.types.specs.declared.Direction.{Direction}
use Rattle.types.specs.declared.Direction.TheVariants.{Read, Write}
use Rattle.types.specs.declared.Entry.{Entry}
use Rattle.types.specs.declared.Verb.{Verb}
use Rattle.types.specs.declared.Verb.TheVariants.{ClaimRead, ClaimWrite}
use Rattle.types.specs.declared.Outcome.{Outcome}
use Rattle.types.specs.declared.Refusal.{Refusal}
use Rattle.types.specs.declared.Refusal.TheVariants.{NotMade, NoSuchTask}
use Rattle.ring.specs.Held.{Held, put_all}
use Rattle.word.specs.Words.{Sizes}
use Rattle.rules.specs.declared.Phase.{Phase}
use Rattle.rules.specs.Locks.{Lock, row_of, phase_of}
use Rattle.rules.specs.Steps.{Answer, refused, accepted, Room, can_enter, one_more_attempt, step, after, make}
use Rattle.lock.specs.declared.state.Task.{Task}
use Rattle.rules.specs.Records.{words_of, making_words}

-- The verb of a claim.
abbrev pub claim_verb : Direction → Verb
claim_verb Read = ClaimRead
claim_verb Write = ClaimWrite

-- The refusal, or the outcome of what was done.
abbrev pub result_of : Answer → Result Outcome Refusal
result_of (refused r) = Err r
result_of (accepted d) = Ok d.outcome

-- A making answers nothing but that it was accepted.
abbrev pub made_of : Result Lock Refusal → Result (Unit {0}) Refusal
made_of (Ok l) = Ok tt
made_of (Err r) = Err r

-- The lock after a making.
abbrev pub after_making : Lock → Result Lock Refusal → Lock
after_making l (Ok l') = l'
after_making l (Err r) = l

-- The free places where no notices are handed over.
abbrev pub archive_room : Held ℕ → Room
archive_room archive = record { notices = 0; archive = length archive.spare }

-- The free places of both rings.
abbrev pub ring_room : Held Entry → Held ℕ → Room
ring_room notices archive = record { notices = length notices.spare; archive = length archive.spare }

-- What a claim, move or leave of task t leaves: its answer, the lock and the archive are those of the rules.
pub record Called (z : Sizes) (verb : Verb) (t : ℕ) (room : Room) (l : Lock) (archive : Held ℕ) (r : Result Outcome Refusal) (l' : Lock) (archive' : Held ℕ) : Type 0 where
  pub answer : r ≡ result_of (step z verb t room l)
  pub lock : l' ≡ after l (step z verb t room l)
  pub words : archive' ≡ put_all (words_of verb t (step z verb t room l)) archive

-- What a making leaves.
pub record Made (z : Sizes) (tasks spin : ℕ) (l : Lock) (archive : Held ℕ) (r : Result (Unit {0}) Refusal) (l' : Lock) (archive' : Held ℕ) : Type 0 where
  pub answer : r ≡ made_of (make z tasks spin (length archive.spare) l)
  pub lock : l' ≡ after_making l (make z tasks spin (length archive.spare) l)
  pub words : archive' ≡ put_all (making_words tasks spin (make z tasks spin (length archive.spare) l)) archive

-- The number of a task, or the refusal of a call that names no task of a made lock.
abbrev pub task_answer : ℕ → Lock → Result ℕ Refusal
task_answer t l = cond (l.tasks == 0) (Err NotMade) (cond (nat_le l.tasks t) (Err NoSuchTask) (Ok t))

-- A task by its number.
abbrev pub number_of : Result Task Refusal → Result ℕ Refusal
number_of (Ok task) = Ok task.number
number_of (Err r) = Err r

-- An attempt to enter: the attempts made with this one, Ok where the word lets the task enter.
abbrev pub attempt_answer : Sizes → ℕ → Direction → Lock → Result ℕ ℕ
attempt_answer z t d l = cond (can_enter z t d l.word) (Ok (one_more_attempt (row_of t l).attempts)) (Err (one_more_attempt (row_of t l).attempts))

-- The phase of a task; none from T up.
abbrev pub phase_answer : ℕ → Lock → Option Phase
phase_answer t l = cond (nat_le l.tasks t) None (Some (phase_of t l))
