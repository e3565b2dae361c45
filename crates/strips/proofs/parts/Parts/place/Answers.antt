use Rattle.std.proofs.Common.{sym, ap, ◌∙◌}
use Rattle.queue.specs.Queues.{placed}
use Rattle.strips.specs.Tasks.{tasks_of}
use Rattle.strips.specs.Entries.{lined, entries_of}
use Rattle.strips.proofs.parts.Parts.place.Goals as goal
use Rattle.strips.proofs.Lined.{lined_reader, lined_ahead, lined_behind}

pub returns-in-Read : goal.returns-in-Read
returns-in-Read c =
    let p = c.args.self.now in
    ap (λ rs. lined (tasks_of p.ahead) rs (tasks_of p.behind)) c.push.ensures
    ∙ lined_reader c.args.task (tasks_of p.ahead) (tasks_of p.readers) (tasks_of p.behind) c.args.self.now.settled
    ∙ ap (λ d. placed c.args.task d (entries_of p)) (sym c.in-Read.is)

pub returns-then-len-eq0 : goal.returns-then-len-eq0
returns-then-len-eq0 c =
    let p = c.args.self.now in
    let none = sym c.len.ensures.value ∙ c.if-len-eq0.true in
    ap (λ ws. lined ws (tasks_of p.readers) (tasks_of p.behind)) c.push-then-len-eq0.ensures
    ∙ lined_ahead c.args.task (tasks_of p.ahead) (tasks_of p.readers) (tasks_of p.behind) none (c.args.self.now.settled none)
    ∙ ap (λ d. placed c.args.task d (entries_of p)) (sym c.in-Write.is)

pub returns-else-len-eq0 : goal.returns-else-len-eq0
returns-else-len-eq0 c =
    let p = c.args.self.now in
    ap (λ vs. lined (tasks_of p.ahead) (tasks_of p.readers) vs) c.push-else-len-eq0.ensures
    ∙ lined_behind c.args.task (tasks_of p.ahead) (tasks_of p.readers) (tasks_of p.behind)
    ∙ ap (λ d. placed c.args.task d (entries_of p)) (sym c.in-Write.is)
