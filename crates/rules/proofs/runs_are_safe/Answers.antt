use Rattle.rules.proofs.Safe.{runs_are_safe_lem}
use Rattle.rules.proofs.runs_are_safe.Goals as goal

pub returns : goal.returns
returns g c = runs_are_safe_lem g.W.LockWord.sizes (record { some = g.met.W.LockWord.some_groups; ample = g.met.W.LockWord.ample_limit })
