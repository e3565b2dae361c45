use Rattle.queue.proofs.Laws.{rest_lawful}
use Rattle.chain.specs.Walks.{held}
use Rattle.chain.proofs.Entries.{laws_kept}
use Rattle.chain.proofs.ChainWaitQueue.take_first.Goals as goal

pub invariant_of-self : goal.invariant_of-self
invariant_of-self c =
    let es = held c.args.self.now.links in
    record { laws = rw c.unlink_first.ensures.queue (laws_kept es _ (rest_lawful es) c.args.self.now.laws); agrees = c.unlink_first.ensures.agrees }
