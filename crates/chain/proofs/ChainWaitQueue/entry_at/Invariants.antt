use Rattle.std.proofs.Common.{◌≡◌, ◌-◌, ◌≤◌, true}
use Rattle.queue.specs.Queues.{tasks_in_range, entry_at}
use Rattle.chain.specs.Walks.{held, walk}
use Rattle.chain.proofs.ChainWaitQueue.entry_at.Given as goal

abbrev pub invariant-loop-left : goal.invariant-loop-left
invariant-loop-left l =
    let ahead = walk l.self.links.places (l.self.links.len - (l.place - l.left)) l.task in
    (l.left ≤ l.place) × (tasks_in_range ahead ≡ true) × (entry_at l.left ahead ≡ entry_at l.place (held l.self.links))

abbrev pub decreases-loop-left : goal.decreases-loop-left
decreases-loop-left l = l.left
