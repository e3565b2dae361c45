use Rattle.std.proofs.Common.{◌≡◌, ℕ, List, ◌++◌}
use Rattle.std.specs.List.{flat_map}
use Rattle.std.specs.Io.KnownBytes.{Appends}
use Rattle.driver.specs.Meaning.{packed_setup}
use Rattle.driver.specs.Ready.{Ready}
use Rattle.cut.specs.Left.{lines_left}
use Rattle.transcript.specs.Answers.{answers_to}
use Rattle.transcript.specs.Printed.{text_of, printed}
use Rattle.transcript.proofs.transcribe.Given as goal

abbrev pub invariant-loop-line : goal.invariant-loop-line
invariant-loop-line g l =
    (goal.iterator-loop-line g).can_next l.line-iterator
    × (goal.iterator-loop-line g).is_finite l.line-iterator
    × Ready (packed_setup l.setup)
    × ((done : List ℕ) × Appends (g.W.Write.contents l.initial.out) (g.W.Write.contents l.out) done
    × (done ++ flat_map text_of (answers_to (lines_left l.line-iterator) (packed_setup l.setup).lock) ≡ printed l.input))
