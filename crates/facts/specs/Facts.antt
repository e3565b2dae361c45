-- Ten facts of the rules, above the packed word. Assumes nothing.
use Rattle.std.specs.Prelude.{◌≡◌, ℕ, List, [], ◌∷◌, ◌++◌, Ok, Err, Result}
use Rattle.types.specs.Numbers.{outcome_number, refusal_number}
use Rattle.types.specs.declared.Verb.{Verb}
use Rattle.types.specs.declared.Verb.TheVariants.{ClaimRead, ClaimWrite, Move, Leave}
use Rattle.types.specs.declared.Refusal.{Refusal}
use Rattle.packed.specs.Unpacked.{packed_sizes, unpacked}
use Rattle.rules.specs.Locks.{Lock, fresh_lock, blank_lock}
use Rattle.rules.specs.Steps.{Answer, refused, accepted, Room, step, make}
use Rattle.rules.specs.Runs.{Call, lock_after}
use Rattle.rules.specs.Records.{words_of}

-- The number of a refused making, 0 for an accepted one.
abbrev pub making_number : Result Lock Refusal → ℕ
making_number (Ok l) = 0
making_number (Err r) = refusal_number r

-- The number of a refused call, 0 for an accepted one.
abbrev pub refused_with : Answer → ℕ
refused_with (refused r) = refusal_number r
refused_with (accepted d) = 0

-- The number of an accepted call's outcome.
abbrev pub outcome_of : Answer → ℕ
outcome_of (refused r) = 10
outcome_of (accepted d) = outcome_number d.outcome

-- Ample room in both rings.
abbrev pub ample : Room
ample = record { notices = 64; archive = 66 }

abbrev pub call : Verb → ℕ → Call
call verb task = record { verb = verb; task = task; room = ample }

-- Task 0 writes, task 1 waits to write and task 2 to read.
abbrev pub two_wait : List Call
two_wait =
    call ClaimWrite 0 ∷ call Move 0
    ∷ call ClaimWrite 1 ∷ call Move 1 ∷ call Move 1 ∷ call Move 1
    ∷ call ClaimRead 2 ∷ call Move 2 ∷ call Move 2 ∷ call Move 2
    ∷ []

-- Task 0 leaves and passes the lock on.
abbrev pub first_pass : List Call
first_pass = call Leave 0 ∷ call Move 0 ∷ call Move 0 ∷ []

-- Task 0 writes, and tasks 1 and 2 wait to read; task 0 leaves and has the queue lock.
abbrev pub readers_wait : List Call
readers_wait =
    call ClaimWrite 0 ∷ call Move 0
    ∷ call ClaimRead 1 ∷ call Move 1 ∷ call Move 1 ∷ call Move 1
    ∷ call ClaimRead 2 ∷ call Move 2 ∷ call Move 2 ∷ call Move 2
    ∷ call Leave 0 ∷ call Move 0
    ∷ []

-- A lock of three tasks that do not spin, after these calls.
abbrev pub after_calls : List Call → Lock
after_calls cs = lock_after packed_sizes (fresh_lock packed_sizes 3 0) cs

-- The answer to a call after these calls.
abbrev pub answer_after : List Call → Verb → ℕ → Room → Answer
answer_after cs verb task room = step packed_sizes verb task room (after_calls cs)

-- A making of a blank lock.
abbrev pub making : ℕ → ℕ → Result Lock Refusal
making tasks spin = make packed_sizes tasks spin 66 (blank_lock packed_sizes)

pub record TenFacts : Type 0 where
  pub no_task : making_number (making 0 0) ≡ 2
  pub most_tasks : making_number (making 64 0) ≡ 0
  pub too_many_tasks : making_number (making 65 0) ≡ 2
  pub too_much_spin : making_number (making 3 256) ≡ 3
  pub both_wait : (after_calls two_wait).word ≡ unpacked 0xe000_0000
  pub writer_has : (after_calls (two_wait ++ first_pass)).word ≡ unpacked 0xa000_0000
  pub reader_next : (words_of Move 1 (answer_after (two_wait ++ first_pass ++ (call Leave 1 ∷ call Move 1 ∷ [])) Move 1 ample) ≡ 0x2300_0001 ∷ 0x3900_0001 ∷ 0x4000_0002 ∷ []) × ((after_calls (two_wait ++ first_pass ++ (call Leave 1 ∷ call Move 1 ∷ call Move 1 ∷ []))).word ≡ unpacked 0x0000_0001)
  pub reader_out : (outcome_of (answer_after (two_wait ++ first_pass ++ (call Leave 1 ∷ call Move 1 ∷ call Move 1 ∷ [])) Leave 2 ample) ≡ 7) × ((after_calls (two_wait ++ first_pass ++ (call Leave 1 ∷ call Move 1 ∷ call Move 1 ∷ call Leave 2 ∷ []))).word ≡ unpacked 0x0000_0000)
  pub queued_claim : refused_with (answer_after two_wait ClaimWrite 1 ample) ≡ 7
  pub no_notice_place : refused_with (answer_after readers_wait Move 0 (record { notices = 1; archive = 66 })) ≡ 9
