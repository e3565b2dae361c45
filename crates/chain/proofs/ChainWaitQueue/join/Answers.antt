use Rattle.std.proofs.Common.{◌≡◌, ◌<◌, true, not, ltb, sym, ◌∙◌, arith}
use Rattle.std.proofs.lemmas.Bool.{and_from, lt-ltb, not_from_false}
use Rattle.queue.specs.Queues.{has_task, can_join}
use Rattle.queue.proofs.Laws.{placed_lawful}
use Rattle.chain.specs.Walks.{held}
use Rattle.chain.proofs.Entries.{laws_kept}
use Rattle.chain.proofs.ChainWaitQueue.join.Goals as goal

pub invariant_of-self : goal.invariant_of-self
invariant_of-self c =
    let q = c.args.self.now in
    let es = held q.links in
    let task = c.args.task in
    let small : task < 64 = omega arith in
    let absent = sym (q.agrees.1 task small) ∙ c.if-self-place.false in
    let can : can_join task es ≡ true = and_from (ltb task 64) (not (has_task task es)) (lt-ltb task 64 small) (not_from_false (has_task task es) absent) in
    record { laws = rw c.join.ensures.queue (laws_kept es _ (placed_lawful task c.args.direction es can) q.laws); agrees = c.join.ensures.agrees }
