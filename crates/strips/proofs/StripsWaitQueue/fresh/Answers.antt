use Rattle.std.proofs.Common.{sym, ap, ◌∙◌}
use Rattle.queue.specs.Queues.{has_task}
use Rattle.strips.proofs.StripsWaitQueue.fresh.Goals as goal
use Rattle.strips.proofs.Flags.{flagged_none}

pub invariant_of-result-clause-flagged : goal.invariant_of-result-clause-flagged
invariant_of-result-clause-flagged c = λ t small. flagged_none t small ∙ sym (ap (has_task t) c.empty.ensures)
