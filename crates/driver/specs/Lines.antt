-- What a line does to a lock and its two rings, by the rules. Assumes nothing.
use Rattle.std.specs.Prelude.{ℕ, List, length, Ok, Err, Result}
use Rattle.types.specs.declared.Direction.TheVariants.{Read}
use Rattle.types.specs.declared.Entry.{Entry}
use Rattle.types.specs.declared.Verb.{Verb}
use Rattle.types.specs.declared.Outcome.{Outcome}
use Rattle.types.specs.declared.Refusal.{Refusal}
use Rattle.ring.specs.Held.{Held, blank_held, put_all}
use Rattle.word.specs.Words.{Sizes}
use Rattle.packed.specs.Unpacked.{packed_sizes}
use Rattle.lines.specs.declared.commands.Command.{Command}
use Rattle.lines.specs.declared.commands.Command.TheVariants.{Make, Call as CallOf}
use Rattle.lines.specs.declared.commands.Fault.{Fault}
use Rattle.lines.specs.Grammar.{answer}
use Rattle.rules.specs.Locks.{Lock, blank_lock}
use Rattle.rules.specs.Steps.{Answer, step, after, make}
use Rattle.rules.specs.Records.{words_of, notices_of, making_words}
use Rattle.lock.specs.Answers.{result_of, made_of, after_making, ring_room}
use Rattle.driver.specs.declared.trouble.Trouble.{Trouble}
use Rattle.driver.specs.declared.trouble.Trouble.TheVariants.{Call, Line}

-- A lock with its notices and its archive.
pub record Setup : Type 0 where
  pub lock : Lock
  pub notices : Held Entry
  pub archive : Held ℕ

-- A setup of its parts.
abbrev pub setup : Lock → Held Entry → Held ℕ → Setup
setup l n a = record { lock = l; notices = n; archive = a }

-- A lock that is not made yet, and rings of so many places that hold blanks.
abbrev pub blank_setup : Sizes → ℕ → ℕ → Setup
blank_setup z notices archive = setup (blank_lock z) (blank_held notices (record { task = 255; direction = Read })) (blank_held archive 0)

-- A line's answer, and the setup afterwards.
pub record Ran : Type 0 where
  pub answer : Result (Unit {0}) Trouble
  pub after : Setup

-- That answer with that setup.
abbrev pub ran : Result (Unit {0}) Trouble → Setup → Ran
ran r b = record { answer = r; after = b }

-- What the rules answer to a call.
unfoldable pub call_answer : Sizes → Verb → ℕ → Setup → Answer
call_answer z verb task b = step z verb task (ring_room b.notices b.archive) b.lock

-- What the rules answer to a making.
unfoldable pub make_answer : Sizes → ℕ → ℕ → Setup → Result Lock Refusal
make_answer z tasks spin b = make z tasks spin (length b.archive.spare) b.lock

-- The outcome of a call, or its refusal.
abbrev pub called_of : Sizes → Verb → ℕ → Setup → Result Outcome Refusal
called_of z verb task b = result_of (call_answer z verb task b)

-- Whether a making was accepted, or its refusal.
abbrev pub built_of : Sizes → ℕ → ℕ → Setup → Result (Unit {0}) Refusal
built_of z tasks spin b = made_of (make_answer z tasks spin b)

-- The setup after a call: the rules' lock, notices and words.
abbrev pub setup_called : Sizes → Verb → ℕ → Setup → Setup
setup_called z verb task b =
    setup (after b.lock (call_answer z verb task b)) (put_all (notices_of (call_answer z verb task b)) b.notices) (put_all (words_of verb task (call_answer z verb task b)) b.archive)

-- The setup after a making: the rules' lock and word, and the same notices.
abbrev pub setup_made : Sizes → ℕ → ℕ → Setup → Setup
setup_made z tasks spin b = setup (after_making b.lock (make_answer z tasks spin b)) b.notices (put_all (making_words tasks spin (make_answer z tasks spin b)) b.archive)

-- A line answers nothing but that it was carried out, or the refusal of its call.
abbrev pub answered : {A : Type 0} → Result A Refusal → Result (Unit {0}) Trouble
answered (Ok a) = Ok tt
answered (Err r) = Err (Call r)

-- A command carried out.
abbrev pub command_run : Command → Setup → Ran
command_run (Make tasks spin) b = ran (answered (built_of packed_sizes tasks spin b)) (setup_made packed_sizes tasks spin b)
command_run (CallOf verb task) b = ran (answered (called_of packed_sizes verb task b)) (setup_called packed_sizes verb task b)

-- What the reading of a line leads to: a fault alters nothing, and a command is carried out.
abbrev pub read_run : Result Command Fault → Setup → Ran
read_run (Ok command) b = command_run command b
read_run (Err fault) b = ran (Err (Line fault)) b

-- What a line answers, and the setup after it.
abbrev pub line_run : List ℕ → Setup → Ran
line_run line b = read_run (answer line) b
