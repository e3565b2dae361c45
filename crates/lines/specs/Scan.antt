-- What the private steps of the reading answer, by the grammar. Assumes nothing.
use Rattle.std.specs.Prelude.{◌≡◌, ℕ, ◌+◌, ◌<◌, ◌≤◌, cond, List, [], ◌∷◌, length, drop, Some, None, Option, Result, slice_index}
use Rattle.std.specs.Int.{IsInRange}
use Rattle.lines.specs.declared.commands.Command.{Command}
use Rattle.lines.specs.declared.commands.Fault.{Fault}
use Rattle.lines.specs.declared.LineVerb.{LineVerb}
use Rattle.lines.specs.declared.LineVerb.TheVariants.{Make, Call}
use Rattle.lines.specs.declared.Numeral.{Numeral}
use Rattle.lines.specs.declared.Token.{Token}
use Rattle.lines.specs.declared.Token.TheVariants.{Letter, Number, LeftOver}
use Rattle.lines.specs.Grammar.{is_letter, is_make, call_verb, run_length, number_at, end_at, value_of, letter_part, space_part, number_part, end_part, first_fault, unless}

-- What a letter asks for.
abbrev pub line_verb : ℕ → LineVerb
line_verb b = cond (is_make b) Make (Call (call_verb b))

-- What a letter asks for, if it is one.
abbrev pub letter_verb : ℕ → Option LineVerb
letter_verb b = cond (is_letter b) (Some (line_verb b)) None

-- A token stands at a place: the letter at the beginning of the line, else the digits there, else all that is left.
abbrev pub TokenAt : List ℕ → ℕ → Token → Type 0
TokenAt line place (Letter letter) = (place ≡ 0) × (0 < length line) × (letter.now ≡ slice_index line 0)
TokenAt line place (Number digits) = (place ≡ 0 → length line ≡ 0) × (digits.now ≡ number_at line place) × (0 < length digits.now) × (place + length digits.now ≡ end_at line place) × (end_at line place ≤ length line)
TokenAt line place (LeftOver bytes) = (place ≡ 0 → length line ≡ 0) × (bytes.now ≡ drop place line) × (run_length (drop place line) ≡ 0) × (place + length bytes.now ≡ length line)

-- The verb of a line, or the fault of its letter.
abbrev pub verb_answer : List ℕ → Result LineVerb Fault
verb_answer line = unless (first_fault (letter_part line ∷ [])) (line_verb (slice_index line 0))

-- Each byte is a digit.
abbrev pub AllDigits : List ℕ → Type 0
AllDigits bytes = (k : ℕ) → k < length bytes → IsInRange 48 57 (slice_index bytes k)

-- The number behind a space, or the first fault of the two.
abbrev pub number_answer : List ℕ → ℕ → Result Numeral Fault
number_answer line place =
    unless (first_fault (space_part line place ∷ number_part line (place + 1) ∷ [])) (record { value = value_of (number_at line (place + 1)); end = end_at line (place + 1) })

-- A command whose line ends here, or the fault of what is left over.
abbrev pub end_answer : List ℕ → ℕ → Command → Result Command Fault
end_answer line place command = unless (first_fault (end_part line place ∷ [])) command
