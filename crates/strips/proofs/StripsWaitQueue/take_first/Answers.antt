use Rattle.std.proofs.Common.{◌≡◌, true, false, ◌∷◌, set, sym, ap, ◌∙◌, subst}
use Rattle.std.proofs.lemmas.List.{length-set}
use Rattle.queue.specs.Queues.{rest, no_task_twice}
use Rattle.queue.proofs.Laws.{Lawful, rest_lawful}
use Rattle.queue.proofs.Members.{first_and_rest}
use Rattle.strips.specs.Entries.{entries_of, Flagged}
use Rattle.strips.proofs.StripsWaitQueue.take_first.Goals as goal
use Rattle.strips.proofs.Flags.{lawful, flagged_rest}

pub invariant_of-self-2 : goal.invariant_of-self-2
invariant_of-self-2 c =
    let q = c.args.self.now in
    let es = (entries_of q.parts) in
    let e = c.in_ok-first.first in
    let whole = first_and_rest e es (sym c.in_ok-first.was ∙ c.take_first.ensures.answer) in
    let after = sym c.take_first.ensures.queue in
    let laws = subst Lawful after (rest_lawful es (lawful q)) in
    let apart : no_task_twice (e ∷ rest es) ≡ true = sym (ap no_task_twice whole) ∙ q.none_twice in
    let told = subst (Flagged (set q.present e.task false)) after (flagged_rest q.present e (rest es) q.flags apart (subst (Flagged q.present) whole q.flagged)) in
    record {
      flags = length-set q.present _ _ ∙ q.flags;
      in_range = laws.in_range;
      none_twice = laws.none_twice;
      neighbours = laws.neighbours;
      flagged = told;
    }
