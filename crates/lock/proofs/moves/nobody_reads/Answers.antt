use Rattle.std.proofs.Common.{◌≡◌, ℕ, ◌<◌, length, slice_index, rules, IsTrue}
use Rattle.std.proofs.iter.runs.Sources.{ranges}
use Rattle.lock.proofs.Counts.{zeros_told}
use Rattle.lock.proofs.moves.nobody_reads.Goals as goal

pub returns : goal.returns
returns g c =
    let xs = (g.W.LockWord.meaning c.args.word.now).counts in
    let groups = g.met.W.LockWord.group_count in
    let long = g.met.W.LockWord.one_count_each c.args.word.now in
    let all : IsTrue c.all.result → (k : ℕ) → k < length xs → slice_index xs k ≡ 0 = search (rules, ranges) in
    let each : ((k : ℕ) → k < length xs → slice_index xs k ≡ 0) → IsTrue c.all.result = search (rules, ranges) in
    zeros_told c.all.result xs all each
