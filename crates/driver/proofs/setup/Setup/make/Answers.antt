use Rattle.driver.specs.Meaning.{setup_of}
use Rattle.driver.proofs.Calls.{make_on}
use Rattle.driver.proofs.setup.Setup.make.Goals as goal

pub returns-clause-answer : goal.returns-clause-answer
returns-clause-answer g c =
    (make_on g.W.LockWord.sizes c.args.tasks c.args.spin (setup_of g.W.LockWord.meaning g.Q.WaitQueue.entries c.args.self.now) _ _ _ c.make.ensures.made).answer

pub returns-clause-after : goal.returns-clause-after
returns-clause-after g c =
    (make_on g.W.LockWord.sizes c.args.tasks c.args.spin (setup_of g.W.LockWord.meaning g.Q.WaitQueue.entries c.args.self.now) _ _ _ c.make.ensures.made).after
