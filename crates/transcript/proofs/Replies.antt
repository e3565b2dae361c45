-- A line's run on empty rings, and its reply. Assumes nothing.
use Rattle.std.proofs.Common.{◌≡◌, ℕ, List, Ok, Err, Result, sym, refl, ap, subst}
use Rattle.types.specs.declared.Verb.{Verb}
use Rattle.types.specs.declared.Refusal.{Refusal}
use Rattle.ring.specs.Held.{places_of}
use Rattle.ring.proofs.Emptying.{free_places}
use Rattle.packed.specs.Unpacked.{packed_sizes}
use Rattle.rules.specs.Locks.{Lock}
use Rattle.rules.specs.Steps.{Answer, refused, accepted, after, after_making}
use Rattle.rules.specs.Records.{words_of, making_words}
use Rattle.lock.specs.Answers.{result_of, made_of}
use Rattle.lines.specs.declared.commands.Command.{Command}
use Rattle.lines.specs.declared.commands.Command.TheVariants.{Make, Call as CallOf}
use Rattle.lines.specs.declared.commands.Fault.{Fault}
use Rattle.lines.specs.Grammar.{answer}
use Rattle.driver.specs.declared.trouble.Trouble.{Trouble}
use Rattle.driver.specs.Lines.{Setup, Ran, ran, answered, setup_called, setup_made, command_run, read_run, line_run}
use Rattle.driver.specs.Ready.{Ready, CarriedOut}
use Rattle.driver.proofs.OnReady.{call_room, making_room, call_out, making_out}
use Rattle.transcript.specs.Answers.{LineAnswer, words, trouble, Reply, call_reply, making_reply, command_reply, read_reply, line_reply}

-- a line's answer with the archive's content, or its trouble
abbrev pub answer_of : Result (Unit {0}) Trouble → List ℕ → LineAnswer
answer_of (Ok u) ws = words ws
answer_of (Err t) ws = trouble t

-- a run comes to that reply, and no place of a ring is lost
pub record Agrees (run : Ran) (to : Reply) : Type 0 where
  pub answer : answer_of run.answer run.after.archive.content ≡ to.answer
  pub lock : run.after.lock ≡ to.lock
  pub notices : places_of run.after.notices ≡ 64
  pub archive : places_of run.after.archive ≡ 66

call_agrees : (verb : Verb) (t : ℕ) (l : Lock) (a : Answer) (b : Setup) → CarriedOut (after l a) (words_of verb t a) b → Agrees (ran (answered (result_of a)) b) (call_reply verb t l a)
call_agrees verb t l (refused r) b out = record { answer = refl; lock = out.lock; notices = out.notices; archive = out.archive }
call_agrees verb t l (accepted d) b out = record { answer = ap words out.words; lock = out.lock; notices = out.notices; archive = out.archive }

making_agrees : (tasks spin : ℕ) (l : Lock) (x : Result Lock Refusal) (b : Setup) → CarriedOut (after_making l x) (making_words tasks spin x) b → Agrees (ran (answered (made_of x)) b) (making_reply tasks spin l x)
making_agrees tasks spin l (Ok made) b out = record { answer = ap words out.words; lock = out.lock; notices = out.notices; archive = out.archive }
making_agrees tasks spin l (Err r) b out = record { answer = refl; lock = out.lock; notices = out.notices; archive = out.archive }

command_agrees : (c : Command) (b : Setup) → Ready b → Agrees (command_run c b) (command_reply b.lock c)
command_agrees (Make tasks spin) b ready =
    subst (λ x. Agrees (ran (answered (made_of x)) (setup_made packed_sizes tasks spin b)) (command_reply b.lock (Make tasks spin))) (sym (making_room packed_sizes tasks spin b ready)) (making_agrees tasks spin b.lock _ (setup_made packed_sizes tasks spin b) (making_out packed_sizes tasks spin b _ ready refl))
command_agrees (CallOf verb t) b ready =
    subst (λ a. Agrees (ran (answered (result_of a)) (setup_called packed_sizes verb t b)) (command_reply b.lock (CallOf verb t))) (sym (call_room packed_sizes verb t b ready)) (call_agrees verb t b.lock _ (setup_called packed_sizes verb t b) (call_out packed_sizes verb t b _ ready refl))

read_agrees : (r : Result Command Fault) (b : Setup) → Ready b → Agrees (read_run r b) (read_reply b.lock r)
read_agrees (Ok c) b ready = command_agrees c b ready
read_agrees (Err f) b ready = record { answer = refl; lock = refl; notices = free_places 64 b.notices ready.0; archive = free_places 66 b.archive ready.1 }

pub line_agrees : (line : List ℕ) (b : Setup) → Ready b → Agrees (line_run line b) (line_reply line b.lock)
unfolding line_reply
line_agrees line b ready = read_agrees (answer line) b ready
