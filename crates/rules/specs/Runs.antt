-- Runs of a lock, what they tell of each task, and the laws of every run. Assumes nothing.
use Rattle.std.specs.Prelude.{◌≡◌, ℕ, ◌+◌, ◌<◌, ◌≤◌, Bool, true, false, cond, ◌&&◌, ◌||◌, ◌⊎◌, List, [], ◌∷◌, length, drop, Some, None, Option, ◌==◌, ◌≢◌, slice_index_or}
use Rattle.types.specs.Numbers.{outcome_number}
use Rattle.types.specs.declared.Direction.{Direction}
use Rattle.types.specs.declared.Direction.TheVariants.{Read, Write}
use Rattle.types.specs.declared.Entry.{Entry}
use Rattle.types.specs.declared.Verb.{Verb}
use Rattle.types.specs.declared.Verb.TheVariants.{ClaimRead, ClaimWrite, Move, Leave}
use Rattle.types.specs.declared.Outcome.{Outcome}
use Rattle.queue.specs.Queues.{has_task}
use Rattle.word.specs.Words.{Sizes, tasks_in_group}
use Rattle.rules.specs.declared.Phase.{Phase}
use Rattle.rules.specs.declared.Phase.TheVariants.{Queued, Holding, Owing, Passing}
use Rattle.rules.specs.Locks.{Lock, fresh_lock, phase_of}
use Rattle.rules.specs.Steps.{Room, Answer, refused, accepted, step, after}

-- A call with the free places of the rings at that time.
pub record Call : Type 0 where
  pub verb : Verb
  pub task : ℕ
  pub room : Room

-- What is seen of an accepted call: its outcome, and the tasks taken, as its notices tell.
pub record Seen : Type 0 where
  pub outcome : Outcome
  pub taken : List Entry

-- A call and what was seen of it; none where it was refused.
pub record Event : Type 0 where
  pub verb : Verb
  pub task : ℕ
  pub seen : Option Seen

abbrev pub seen_of : Answer → Option Seen
seen_of (refused r) = None
seen_of (accepted d) = Some (record { outcome = d.outcome; taken = d.taken })

-- The answer of a call.
abbrev pub answer_to : Sizes → Call → Lock → Answer
answer_to z c l = step z c.verb c.task c.room l

-- The events of a run from the lock l.
abbrev pub events : Sizes → Lock → List Call → List Event
events z l [] = []
events z l (c ∷ cs) = record { verb = c.verb; task = c.task; seen = seen_of (answer_to z c l) } ∷ events z (after l (answer_to z c l)) cs

-- The lock after a run.
abbrev pub lock_after : Sizes → Lock → List Call → Lock
lock_after z l [] = l
lock_after z l (c ∷ cs) = lock_after z (after l (answer_to z c l)) cs

-- The outcome seen has that number.
abbrev pub numbered : ℕ → Option Seen → Bool
numbered n None = false
numbered n (Some s) = outcome_number s.outcome == n

-- The task is among the tasks taken.
abbrev pub taken_in : ℕ → Option Seen → Bool
taken_in x None = false
taken_in x (Some s) = has_task x s.taken

-- The event is task x's, with the outcome of that number.
abbrev pub came : ℕ → ℕ → Event → Bool
came x n e = e.task == x && numbered n e.seen

-- The event takes task x, in an outcome 9.
abbrev pub takes : ℕ → Event → Bool
takes x e = numbered 9 e.seen && taken_in x e.seen

-- The event gives task x the lock.
abbrev pub gives : ℕ → Event → Bool
gives x e = came x 1 e || takes x e

-- The verb claims in that direction.
abbrev pub claims_to : Direction → Verb → Bool
claims_to Read ClaimRead = true
claims_to Read ClaimWrite = false
claims_to Read Move = false
claims_to Read Leave = false
claims_to Write ClaimRead = false
claims_to Write ClaimWrite = true
claims_to Write Move = false
claims_to Write Leave = false

-- The event is an accepted claim of task x in that direction.
abbrev pub claims : ℕ → Direction → Event → Bool
claims x d e = came x 0 e && claims_to d e.verb

-- A refused call.
abbrev pub nothing : Event
nothing = record { verb = Move; task = 0; seen = None }

-- The event at a place of the run.
abbrev pub at : List Event → ℕ → Event
at es i = slice_index_or es i nothing

-- At place i stands such an event as p, and behind it none such as q.
abbrev pub LastAt : (Event → Bool) → (Event → Bool) → ℕ → List Event → Type 0
LastAt p q i es = (i < length es) × (p (at es i) ≡ true) × ((k : ℕ) → i < k → k < length es → q (at es k) ≡ false)

-- At some place.
abbrev pub Since : (Event → Bool) → (Event → Bool) → List Event → Type 0
Since p q es = (i : ℕ) × LastAt p q i es

-- A task holds the lock from when it is given it until its outcome 7 or 8.
abbrev pub Holds : ℕ → List Event → Type 0
Holds x es = Since (gives x) (λ e. came x 7 e || came x 8 e) es

-- A task is queued from its outcome 6 until it is taken.
abbrev pub IsQueued : ℕ → List Event → Type 0
IsQueued x es = Since (came x 6) (takes x) es

-- A task owes from its outcome 8 until its outcome 9.
abbrev pub IsOwing : ℕ → List Event → Type 0
IsOwing x es = Since (came x 8) (came x 9) es

-- The last accepted claim of task x is in that direction.
abbrev pub LastClaim : ℕ → Direction → List Event → Type 0
LastClaim x d es = Since (claims x d) (came x 0) es

-- A task reads or writes while it holds the lock, by the direction of its last claim.
abbrev pub HoldsTo : Direction → ℕ → List Event → Type 0
HoldsTo d x es = Holds x es × LastClaim x d es

-- A task is queued as a reader or a writer, by the same direction.
abbrev pub QueuedTo : Direction → ℕ → List Event → Type 0
QueuedTo d x es = IsQueued x es × LastClaim x d es

-- How many events of a list are such.
abbrev pub how_many : (Event → Bool) → List Event → ℕ
how_many p [] = 0
how_many p (e ∷ es) = cond (p e) 1 0 + how_many p es

-- Place i has task q's last outcome 6, and q has not been taken since.
abbrev pub WaitsSince : ℕ → ℕ → List Event → Type 0
WaitsSince q i es = LastAt (came q 6) (λ e. came q 6 e || takes q e) i es

-- The number of turns of x that q has seen since place i.
abbrev pub turns_seen : ℕ → ℕ → List Event → ℕ
turns_seen x i es = how_many (gives x) (drop (i + 1) es)

-- A queued writer sees at most two turns of another task, a queued reader one.
abbrev pub patience : Direction → ℕ
patience Read = 1
patience Write = 2

-- The task's phase is owing or passing.
abbrev pub OwesNow : Phase → Type 0
OwesNow p = (p ≡ Owing) ⊎ (p ≡ Passing)

-- The laws of a run with the events es that leaves the lock l.
pub record RunLaws (es : List Event) (l : Lock) : Type 0 where
  pub exclusion : (x y : ℕ) → HoldsTo Write x es → Holds y es → y ≡ x
  pub wake_up : (x : ℕ) → IsQueued x es → (y : ℕ) × (Holds y es ⊎ IsOwing y es)
  pub overtaking : (q x i : ℕ) (d : Direction) → (x ≢ q) → WaitsSince q i es → LastClaim q d es → turns_seen x i es ≤ patience d
  pub holding : (x : ℕ) (d : Direction) → (phase_of x l ≡ Holding d → HoldsTo d x es) × (HoldsTo d x es → phase_of x l ≡ Holding d)
  pub queued : (x : ℕ) (d : Direction) → (phase_of x l ≡ Queued d → QueuedTo d x es) × (QueuedTo d x es → phase_of x l ≡ Queued d)
  pub owing : (x : ℕ) → (OwesNow (phase_of x l) → IsOwing x es) × (IsOwing x es → OwesNow (phase_of x l))

-- What a kind of word promises of its sizes.
pub record Lawful (z : Sizes) : Type 0 where
  pub some : 1 ≤ z.groups
  pub ample : (g : ℕ) → tasks_in_group z.groups g ≤ z.limit

-- Every run from the lock l keeps the laws.
abbrev pub RunsAreSafe : Sizes → Lock → Type 0
RunsAreSafe z l = (cs : List Call) → RunLaws (events z l cs) (lock_after z l cs)

-- Every run keeps the laws from a lock of at most 64 tasks as making leaves it.
abbrev pub MadeLocksAreSafe : Sizes → Type 0
MadeLocksAreSafe z = (tasks spin : ℕ) → tasks ≤ 64 → RunsAreSafe z (fresh_lock z tasks spin)
