-- What the lines of an input answer, one after the other, by the grammar and the rules; every line finds both rings empty. Assumes nothing.
use Rattle.std.specs.Prelude.{ℕ, List, [], ◌∷◌, Ok, Err, Result}
use Rattle.types.specs.declared.Verb.{Verb}
use Rattle.types.specs.declared.Refusal.{Refusal}
use Rattle.packed.specs.Unpacked.{packed_sizes}
use Rattle.rules.specs.Locks.{Lock}
use Rattle.rules.specs.Steps.{ample, Answer, refused, accepted, step, make}
use Rattle.rules.specs.Records.{words_of, making_words}
use Rattle.lines.specs.declared.commands.Command.{Command}
use Rattle.lines.specs.declared.commands.Command.TheVariants.{Make, Call as CallOf}
use Rattle.lines.specs.declared.commands.Fault.{Fault}
use Rattle.lines.specs.Grammar.{answer}
use Rattle.driver.specs.declared.trouble.Trouble.{Trouble}
use Rattle.driver.specs.declared.trouble.Trouble.TheVariants.{Call, Line}

-- What a line answers: the words of its accepted call, or why it is not carried out.
pub data LineAnswer : Type 0 where
  words : List ℕ → LineAnswer
  trouble : Trouble → LineAnswer

-- A line's answer, and the lock afterwards.
pub record Reply : Type 0 where
  pub answer : LineAnswer
  pub lock : Lock

-- That answer with that lock.
abbrev pub reply : LineAnswer → Lock → Reply
reply a l = record { answer = a; lock = l }

-- A call answers its words, or its refusal.
abbrev pub call_reply : Verb → ℕ → Lock → Answer → Reply
call_reply verb task l (refused r) = reply (trouble (Call r)) l
call_reply verb task l (accepted d) = reply (words (words_of verb task (accepted d))) d.lock

-- A making answers its word, or its refusal.
abbrev pub making_reply : ℕ → ℕ → Lock → Result Lock Refusal → Reply
making_reply tasks spin l (Ok made) = reply (words (making_words tasks spin (Ok made))) made
making_reply tasks spin l (Err r) = reply (trouble (Call r)) l

-- A command is carried out by the rules.
abbrev pub command_reply : Lock → Command → Reply
command_reply l (Make tasks spin) = making_reply tasks spin l (make packed_sizes tasks spin ample.archive l)
command_reply l (CallOf verb task) = call_reply verb task l (step packed_sizes verb task ample l)

-- A line that is no command alters nothing.
abbrev pub read_reply : Lock → Result Command Fault → Reply
read_reply l (Ok command) = command_reply l command
read_reply l (Err fault) = reply (trouble (Line fault)) l

-- What a line answers, and the lock after it.
unfoldable pub line_reply : List ℕ → Lock → Reply
line_reply line l = read_reply l (answer line)

-- What the lines answer, each on the lock that the lines before it leave.
abbrev pub answers_to : List (List ℕ) → Lock → List LineAnswer
answers_to [] l = []
answers_to (line ∷ lines) l = (line_reply line l).answer ∷ answers_to lines (line_reply line l).lock
