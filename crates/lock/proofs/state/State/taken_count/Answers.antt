use Rattle.std.proofs.Common.{sym, ◌∙◌}
use Rattle.lock.proofs.Fronts.{no_writer}
use Rattle.lock.proofs.state.State.taken_count.Goals as goal

pub returns-in-None : goal.returns-in-None
returns-in-None g c =
    let q = c.args.self.now.queue in
    c.readers.ensures ∙ no_writer (g.Q.WaitQueue.entries q) (sym c.front.ensures ∙ c.in-None.is) (g.met.Q.WaitQueue.neighbours q)
