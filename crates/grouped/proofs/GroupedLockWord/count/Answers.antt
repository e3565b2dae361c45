use Rattle.std.proofs.Common.{sym, arith}
use Rattle.std.proofs.lemmas.List.{get_or_past}
use Rattle.grouped.proofs.GroupedLockWord.count.Goals as goal

pub returns-else-group-lt-GROUPS : goal.returns-else-group-lt-GROUPS
returns-else-group-lt-GROUPS c = sym (get_or_past c.args.self.now.counts c.args.group 0 (omega arith))
