use Rattle.std.proofs.Common.{◌<◌, sym, ap, arith}
use Rattle.queue.specs.Queues.{first}
use Rattle.chain.proofs.Walks.{walk_first, head_small}
use Rattle.chain.proofs.ChainWaitQueue.first.Goals as goal

pub bounds-self-task : goal.bounds-self-task
bounds-self-task c =
    let links = c.args.self.now.links in
    let some : 0 < links.len = omega arith in
    head_small links.places links.len links.head some c.args.self.now.laws.0

pub returns : goal.returns
returns c =
    let links = c.args.self.now.links in
    let some : 0 < links.len = omega arith in
    sym (ap first (walk_first links.places links.len links.head some))
