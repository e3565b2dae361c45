-- What one call of a task does to the phases and the queue, and what is seen of it. Assumes nothing.
use Rattle.std.proofs.Common.{◌≡◌, ℕ, ◌+◌, ◌≤◌, Bool, true, false, cond, ◌&&◌, ◌||◌, eqb, List, [], ◌∷◌, ◌++◌, length, Some, None, Option}
use Rattle.types.specs.Numbers.{outcome_number}
use Rattle.types.specs.declared.Direction.{Direction}
use Rattle.types.specs.declared.Direction.TheVariants.{Read, Write}
use Rattle.types.specs.declared.Entry.{Entry}
use Rattle.types.specs.declared.Verb.{Verb}
use Rattle.types.specs.declared.Outcome.{Outcome}
use Rattle.types.specs.declared.Outcome.TheVariants.{Claimed, Granted, Again, ToQueueLock, HasQueueLock, Busy, Queued as QueuedUp, Out as LeftOut, Owes, Passed}
use Rattle.queue.specs.Queues.{has_reader, has_task, placed}
use Rattle.rules.specs.declared.Phase.{Phase}
use Rattle.rules.specs.declared.Phase.TheVariants.{Out, Claiming, AtQueueLock, Queueing, Queued, Holding, Owing, Passing}
use Rattle.rules.specs.Locks.{Lock, phase_of}
use Rattle.rules.specs.Runs.{Seen, Event, claims_to, Holds, IsQueued, IsOwing, LastClaim, WaitsSince, turns_seen, patience}
use Rattle.rules.proofs.Rows.{is_same_way, holds_to, queued_to, owes}
use Rattle.rules.proofs.Tally.{bit}
use Rattle.rules.proofs.Entries.{has_entry}

-- A task goes from one phase to another with that outcome, and the queue stays.
pub data Onward (verb : Verb) : Outcome → Phase → Phase → Type 0 where
  claims : (d : Direction) → claims_to d verb ≡ true → Onward verb Claimed Out (Claiming d)
  granted_at_once : (a : ℕ) (d : Direction) → Onward verb (Granted a) (Claiming d) (Holding d)
  granted_late : (a : ℕ) (d : Direction) → Onward verb (Granted a) (Queueing d) (Holding d)
  goes_again : (a : ℕ) (d : Direction) → Onward verb (Again a) (Claiming d) (Claiming d)
  goes_to_lock : (a : ℕ) (d : Direction) → Onward verb (ToQueueLock a) (Claiming d) (AtQueueLock d)
  locks_to_queue : (d : Direction) → Onward verb HasQueueLock (AtQueueLock d) (Queueing d)
  locks_to_pass : Onward verb HasQueueLock Owing Passing
  busy_to_queue : (d : Direction) → Onward verb Busy (AtQueueLock d) (AtQueueLock d)
  busy_to_pass : Onward verb Busy Owing Owing
  leaves : (d : Direction) → Onward verb LeftOut (Holding d) Out
  comes_to_owe : (d : Direction) → Onward verb Owes (Holding d) Owing

-- Task t is in phase p afterwards, and every other task where it was.
abbrev pub Moved : ℕ → Phase → Lock → Lock → Type 0
Moved t p l l' = (x : ℕ) → phase_of x l' ≡ cond (eqb x t) p (phase_of x l)

-- The tasks taken hold in direction d afterwards, t is out, and every other task is where it was.
abbrev pub HandedOver : ℕ → List Entry → Direction → Lock → Lock → Type 0
HandedOver t taken d l l' = (x : ℕ) → phase_of x l' ≡ cond (has_task x taken) (Holding d) (cond (eqb x t) Out (phase_of x l))

-- Every entry has that direction.
abbrev pub all_to : Direction → List Entry → Bool
all_to d [] = true
all_to d (e ∷ es) = is_same_way d e.direction && all_to d es

-- A writer is taken alone, and with readers no reader is left.
abbrev pub Front : Direction → List Entry → List Entry → Type 0
Front Read taken rest = has_reader rest ≡ false
Front Write taken rest = length taken ≡ 1

abbrev pub plainly : Outcome → Option Seen
plainly o = Some (record { outcome = o; taken = [] })

-- What a call of task t can do.
pub data Went (t : ℕ) (verb : Verb) (s : Option Seen) (l l' : Lock) : Type 0 where
  nowhere : s ≡ None → l' ≡ l → Went t verb s l l'
  onward : (o : Outcome) (p' : Phase) → s ≡ plainly o → Onward verb o (phase_of t l) p' → Moved t p' l l' → l'.queue ≡ l.queue → (outcome_number o ≡ 1 → l.queue ≡ []) → Went t verb s l l'
  queues : (a : ℕ) (d : Direction) → s ≡ plainly (QueuedUp a) → phase_of t l ≡ Queueing d → Moved t (Queued d) l l' → l'.queue ≡ placed t d l.queue → Went t verb s l l'
  passes : (taken : List Entry) (d : Direction) → s ≡ Some (record { outcome = Passed (length taken); taken = taken }) → phase_of t l ≡ Passing → HandedOver t taken d l l' → l.queue ≡ taken ++ l'.queue → all_to d taken ≡ true → Front d taken l'.queue → Went t verb s l l'

-- The queue has exactly the queued tasks, each with its direction.
abbrev pub Listed : Lock → Type 0
Listed l = (x : ℕ) (d : Direction) → has_entry x d l.queue ≡ queued_to d (phase_of x l)

-- The phase has that direction.
abbrev pub directed : Direction → Phase → Bool
directed d Out = false
directed d (Claiming d') = is_same_way d d'
directed d (AtQueueLock d') = is_same_way d d'
directed d (Queueing d') = is_same_way d d'
directed d (Queued d') = is_same_way d d'
directed d (Holding d') = is_same_way d d'
directed d Owing = false
directed d Passing = false

abbrev pub Exactly : Bool → Type 0 → Type 0
Exactly b P = (b ≡ true → P) × (P → b ≡ true)

-- A task's phase agrees with what the events tell of it.
pub record Agrees (x : ℕ) (es : List Event) (p : Phase) : Type 0 where
  pub holds : Exactly (holds_to Read p || holds_to Write p) (Holds x es)
  pub waits : Exactly (queued_to Read p || queued_to Write p) (IsQueued x es)
  pub owed : Exactly (owes p) (IsOwing x es)
  pub claim : (d : Direction) → directed d p ≡ true → LastClaim x d es

-- The entries ahead of a task.
abbrev pub before : ℕ → List Entry → List Entry
before q [] = []
before q (e ∷ es) = cond (eqb e.task q) [] (e ∷ before q es)

-- What may still be given to x ahead of q: once as a writer that stands ahead, and once with the readers that do.
abbrev pub ahead : ℕ → ℕ → Direction → List Entry → ℕ
ahead q x Read es = bit (has_entry x Write (before q es))
ahead q x Write es = bit (has_entry x Write (before q es)) + bit (has_reader (before q es))

-- A queued task has seen no more turns of another than its patience allows, those to come before its own included.
abbrev pub Patient : List Event → Lock → Type 0
Patient es l = (q x i : ℕ) (d : Direction) → (x ≡ q → ⊥) → WaitsSince q i es → has_entry q d l.queue ≡ true → turns_seen x i es + ahead q x d l.queue ≤ patience d
