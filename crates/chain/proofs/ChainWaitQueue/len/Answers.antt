use Rattle.std.proofs.Common.{sym}
use Rattle.chain.proofs.Walks.{walk_length}
use Rattle.chain.proofs.ChainWaitQueue.len.Goals as goal

pub returns : goal.returns
returns c = let links = c.args.self.now.links in sym (walk_length links.places links.len links.head)
