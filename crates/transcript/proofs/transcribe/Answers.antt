use Rattle.std.proofs.Common.{[], ap, ◌∙◌}
use Rattle.std.specs.List.{flat_map}
use Rattle.std.proofs.KnownBytes.{Appends-nil}
use Rattle.packed.specs.Unpacked.{packed_sizes}
use Rattle.driver.specs.Meaning.{packed_setup}
use Rattle.driver.proofs.OnReady.{blank_ready}
use Rattle.cut.specs.Lines.{lines_of}
use Rattle.cut.specs.Left.{lines_left}
use Rattle.transcript.specs.Answers.{answers_to}
use Rattle.transcript.specs.Printed.{text_of, answers, printed}
use Rattle.transcript.proofs.Answering.{one_answered}
use Rattle.transcript.proofs.Written.{printed_retraces}
use Rattle.transcript.proofs.transcribe.Goals as goal

pub loop-line-init : goal.loop-line-init
unfolding answers printed
loop-line-init g c =
    let blank = blank_ready packed_sizes _ c.blank-setup.ensures.blank in
    let lock = (packed_setup c.blank-setup.result).lock in
    let all = ap lines_left c.into_iter-line-iterator.ensures.into_iter_gives ∙ c.lines-line-items.ensures.lines in (
      tt,
      tt,
      blank.1,
      (
        [],
        Appends-nil _,
        ap (λ ls. flat_map text_of (answers_to ls lock)) all
            ∙ ap (λ l. flat_map text_of (answers_to (lines_of c.args.input.now) l)) blank.0,
      ),
    )

pub loop-line-preserved : goal.loop-line-preserved
loop-line-preserved g c =
    let (can, finite, ready, (done, before, whole)) = c.loop-line.invariant in
    let answered = c.in_ok-answer_line.ensures.answered in
    (tt, tt, answered.ready, one_answered c.in-Some.line.now _ _ _ _ _ _ _ done _ c.in-Some.ensures.steps answered before whole)

pub returns-in_err-answer_line-clause-retraces : goal.returns-in_err-answer_line-clause-retraces
returns-in_err-answer_line-clause-retraces g c = printed_retraces c.args.input.now

pub returns-clause-retraces : goal.returns-clause-retraces
returns-clause-retraces g c = printed_retraces c.args.input.now
