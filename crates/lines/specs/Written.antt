-- The line that a command writes, and that a line is accepted for just the command that writes it. Assumes nothing.
use Rattle.std.specs.Prelude.{◌≡◌, ℕ, ◌≤◌, List, ◌∷◌, ◌++◌, Ok, decimal, Result}
use Rattle.types.specs.declared.Verb.{Verb}
use Rattle.types.specs.declared.Verb.TheVariants.{ClaimRead, ClaimWrite, Move, Leave}
use Rattle.lines.specs.declared.commands.Command.{Command}
use Rattle.lines.specs.declared.commands.Command.TheVariants.{Make, Call}
use Rattle.lines.specs.declared.commands.Fault.{Fault}

-- The letter of a verb: r, w, m or l.
abbrev pub letter_of : Verb → ℕ
letter_of ClaimRead = 114
letter_of ClaimWrite = 119
letter_of Move = 109
letter_of Leave = 108

-- The line of a command: its letter, a space and its number in decimal, and for a making (letter n) a space and the second number.
abbrev pub line_of : Command → List ℕ
line_of (Make tasks spin) = 110 ∷ 32 ∷ (decimal tasks ++ (32 ∷ decimal spin))
line_of (Call verb task) = letter_of verb ∷ 32 ∷ decimal task

-- The numbers of a command have at most three digits.
abbrev pub Small : Command → Type 0
Small (Make tasks spin) = (tasks ≤ 999) × (spin ≤ 999)
Small (Call verb task) = task ≤ 999

-- A line is accepted as a command exactly when the command's numbers are small and it is the line that the command writes.
unfoldable pub Exact : List ℕ → Result Command Fault → Type 0
Exact line r = (c : Command) → (r ≡ Ok c → Small c × (line ≡ line_of c)) × (Small c × (line ≡ line_of c) → r ≡ Ok c)
