use Rattle.std.proofs.Common.{Err, ap, ◌∙◌}
use Rattle.std.proofs.lemmas.Result.{err_from_is_err_and}
use Rattle.lines.proofs.Accepted.{exact}
use Rattle.lines.proofs.Steps.{first_fault_lem, second_fault}
use Rattle.lines.proofs.command.Goals as goal

pub returns-in_err-first : goal.returns-in_err-first
returns-in_err-first c =
    let line = c.args.line.now in
    let p = err_from_is_err_and c.from_residual-in_err-first.result c.from_residual-in_err-first.ensures.1 in
    let is = p.1 ∙ ap Err p.2 ∙ first_fault_lem line _ c.in_ok-verb.ensures _ c.in_err-first.ensures.value in
    record { reads = is; exact = exact line _ is }

pub returns-in_err-second-in-Make : goal.returns-in_err-second-in-Make
returns-in_err-second-in-Make c =
    let line = c.args.line.now in
    let p = err_from_is_err_and c.from_residual-in_err-second-in-Make.result c.from_residual-in_err-second-in-Make.ensures.1 in
    let fault = second_fault line _ c.in_ok-verb.ensures c.in_ok-first.first c.in_ok-first.ensures.value c.in-Make.is _ c.in_err-second-in-Make.ensures.value in
    let is = p.1 ∙ ap Err p.2 ∙ fault in
    record { reads = is; exact = exact line _ is }
