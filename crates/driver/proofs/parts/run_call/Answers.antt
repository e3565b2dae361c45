use Rattle.types.specs.declared.Direction.TheVariants.{Read, Write}
use Rattle.driver.specs.Meaning.{parts_setup}
use Rattle.driver.proofs.Calls.{claim_on, leave_on, move_on}
use Rattle.driver.proofs.parts.run_call.Goals as goal

pub returns-in-ClaimRead-clause-answer : goal.returns-in-ClaimRead-clause-answer
returns-in-ClaimRead-clause-answer g c =
    (claim_on g.W.LockWord.sizes _ Read c.args.task (parts_setup g.W.LockWord.meaning g.Q.WaitQueue.entries c.args.lock.now c.args.notices.now c.args.archive.now) _ _ _ c.in-ClaimRead.is c.claim.ensures.called).answer

pub returns-in-ClaimRead-clause-after : goal.returns-in-ClaimRead-clause-after
returns-in-ClaimRead-clause-after g c =
    (claim_on g.W.LockWord.sizes _ Read c.args.task (parts_setup g.W.LockWord.meaning g.Q.WaitQueue.entries c.args.lock.now c.args.notices.now c.args.archive.now) _ _ _ c.in-ClaimRead.is c.claim.ensures.called).after

pub returns-in-ClaimWrite-clause-answer : goal.returns-in-ClaimWrite-clause-answer
returns-in-ClaimWrite-clause-answer g c =
    (claim_on g.W.LockWord.sizes _ Write c.args.task (parts_setup g.W.LockWord.meaning g.Q.WaitQueue.entries c.args.lock.now c.args.notices.now c.args.archive.now) _ _ _ c.in-ClaimWrite.is c.claim-in-ClaimWrite.ensures.called).answer

pub returns-in-ClaimWrite-clause-after : goal.returns-in-ClaimWrite-clause-after
returns-in-ClaimWrite-clause-after g c =
    (claim_on g.W.LockWord.sizes _ Write c.args.task (parts_setup g.W.LockWord.meaning g.Q.WaitQueue.entries c.args.lock.now c.args.notices.now c.args.archive.now) _ _ _ c.in-ClaimWrite.is c.claim-in-ClaimWrite.ensures.called).after

pub returns-in-Move-clause-answer : goal.returns-in-Move-clause-answer
returns-in-Move-clause-answer g c =
    (move_on g.W.LockWord.sizes _ c.args.task (parts_setup g.W.LockWord.meaning g.Q.WaitQueue.entries c.args.lock.now c.args.notices.now c.args.archive.now) _ _ _ _ c.in-Move.is c.advance.ensures.called c.advance.ensures.notices).answer

pub returns-in-Move-clause-after : goal.returns-in-Move-clause-after
returns-in-Move-clause-after g c =
    (move_on g.W.LockWord.sizes _ c.args.task (parts_setup g.W.LockWord.meaning g.Q.WaitQueue.entries c.args.lock.now c.args.notices.now c.args.archive.now) _ _ _ _ c.in-Move.is c.advance.ensures.called c.advance.ensures.notices).after

pub returns-in-Leave-clause-answer : goal.returns-in-Leave-clause-answer
returns-in-Leave-clause-answer g c =
    (leave_on g.W.LockWord.sizes _ c.args.task (parts_setup g.W.LockWord.meaning g.Q.WaitQueue.entries c.args.lock.now c.args.notices.now c.args.archive.now) _ _ _ c.in-Leave.is c.leave.ensures.called).answer

pub returns-in-Leave-clause-after : goal.returns-in-Leave-clause-after
returns-in-Leave-clause-after g c =
    (leave_on g.W.LockWord.sizes _ c.args.task (parts_setup g.W.LockWord.meaning g.Q.WaitQueue.entries c.args.lock.now c.args.notices.now c.args.archive.now) _ _ _ c.in-Leave.is c.leave.ensures.called).after
