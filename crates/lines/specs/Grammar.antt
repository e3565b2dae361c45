-- The grammar of a line: its parts by their places, the fault of the first part that does not fit, and the command of a line whose parts all fit. Assumes nothing.
use Rattle.std.specs.Prelude.{ℕ, ◌+◌, ◌-◌, ◌*◌, Bool, cond, not, ◌&&◌, ◌||◌, List, [], ◌∷◌, length, take, drop, Some, None, Ok, Err, fold, Option, Result, ◌==◌, nat_le, nat_lt, slice_index}
use Rattle.std.specs.Char.{is_ascii_digit}
use Rattle.std.specs.List.{prefix_len}
use Rattle.types.specs.declared.Verb.{Verb}
use Rattle.types.specs.declared.Verb.TheVariants.{ClaimRead, ClaimWrite, Move, Leave}
use Rattle.types.specs.declared.Refusal.{Refusal}
use Rattle.types.specs.declared.Refusal.TheVariants.{UnknownLetter, MissingSpace, MalformedNumber, LeftOver}
use Rattle.lines.specs.declared.commands.Command.{Command}
use Rattle.lines.specs.declared.commands.Command.TheVariants.{Make, Call}
use Rattle.lines.specs.declared.commands.Fault.{Fault}

-- A byte is one of the letters n, r, w, m and l.
abbrev pub is_letter : ℕ → Bool
is_letter b = b == 110 || (b == 114 || (b == 119 || (b == 109 || b == 108)))

-- The letter of a making is n.
abbrev pub is_make : ℕ → Bool
is_make b = b == 110

-- The verb of a call's letter: r, w, m, else l.
abbrev pub call_verb : ℕ → Verb
call_verb b = cond (b == 114) ClaimRead (cond (b == 119) ClaimWrite (cond (b == 109) Move Leave))

-- How many bytes the longest run of digits has that begins a list.
unfoldable pub run_length : List ℕ → ℕ
run_length bytes = prefix_len is_ascii_digit bytes

-- The number at a place: the longest run of digits that begins there.
abbrev pub number_at : List ℕ → ℕ → List ℕ
number_at line place = take (run_length (drop place line)) (drop place line)

-- The place behind the number at a place.
abbrev pub end_at : List ℕ → ℕ → ℕ
end_at line place = place + run_length (drop place line)

-- The number that digits write: from the left, ten times the number so far and the next digit.
unfoldable pub value_of : List ℕ → ℕ
value_of digits = fold (λ n digit. n * 10 + (digit - 48)) 0 digits

-- A number has one to three digits, and begins with 0 only when that is its one digit.
abbrev pub well_formed : List ℕ → Bool
well_formed ds = nat_lt 0 (length ds) && (nat_le (length ds) 3 && (nat_le (length ds) 1 || not (slice_index ds 0 == 48)))

-- A part of a line: where it begins or should begin, whether it fits, and the refusal of a line where it does not.
pub record Part : Type 0 where
  pub place : ℕ
  pub refusal : Refusal
  pub fits : Bool

-- A part with its place, refusal and test.
abbrev part : ℕ → Refusal → Bool → Part
part p r f = record { place = p; refusal = r; fits = f }

-- The letter is the first byte. (Past the end of a line a byte is 0, which is no letter, space or digit.)
abbrev pub letter_part : List ℕ → Part
letter_part line = part 0 UnknownLetter (is_letter (slice_index line 0))

-- The byte at a place is a space.
abbrev pub space_part : List ℕ → ℕ → Part
space_part line p = part p MissingSpace (slice_index line p == 32)

-- The number at a place is well formed.
abbrev pub number_part : List ℕ → ℕ → Part
number_part line p = part p MalformedNumber (well_formed (number_at line p))

-- The line ends at a place.
abbrev pub end_part : List ℕ → ℕ → Part
end_part line p = part p LeftOver (nat_le (length line) p)

-- Where the second number of a making begins: behind the first number and a space.
abbrev pub second_at : List ℕ → ℕ
second_at line = end_at line 2 + 1

-- Behind the first number a making has a space, a number and the end.
abbrev pub make_parts : List ℕ → List Part
make_parts line = space_part line (end_at line 2) ∷ number_part line (second_at line) ∷ end_part line (end_at line (second_at line)) ∷ []

-- Behind its number a call has the end.
abbrev pub call_parts : List ℕ → List Part
call_parts line = end_part line (end_at line 2) ∷ []

-- The parts behind the first number, by the letter.
abbrev pub behind_parts : List ℕ → List Part
behind_parts line = cond (is_make (slice_index line 0)) (make_parts line) (call_parts line)

-- The parts of a line.
abbrev pub parts : List ℕ → List Part
parts line = letter_part line ∷ space_part line 1 ∷ number_part line 2 ∷ behind_parts line

-- The making that a line's two numbers give.
abbrev pub make_of : List ℕ → Command
make_of line = Make (value_of (number_at line 2)) (value_of (number_at line (second_at line)))

-- The call that a line's letter and number give.
abbrev pub call_of : List ℕ → Command
call_of line = Call (call_verb (slice_index line 0)) (value_of (number_at line 2))

-- The command of a line whose parts all fit.
abbrev pub command_of : List ℕ → Command
command_of line = cond (is_make (slice_index line 0)) (make_of line) (call_of line)

-- The fault of the first part that does not fit.
abbrev pub first_fault : List Part → Option Fault
first_fault [] = None
first_fault (p ∷ ps) = cond p.fits (first_fault ps) (Some (record { refusal = p.refusal; place = p.place }))

-- A value, unless there is a fault.
abbrev pub unless : {A : Type 0} → Option Fault → A → Result A Fault
unless (Some f) a = Err f
unless None a = Ok a

-- What a line is read to: the fault of the first of its parts that does not fit, else its command.
unfoldable pub answer : List ℕ → Result Command Fault
answer line = unless (first_fault (parts line)) (command_of line)
