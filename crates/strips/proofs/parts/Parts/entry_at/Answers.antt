use Rattle.std.proofs.Common.{sym, ap}
use Rattle.queue.specs.Queues.{entry_at}
use Rattle.strips.specs.Tasks.{tasks_of}
use Rattle.strips.proofs.Lined.{found_at, past_at, sections_all}
use Rattle.strips.proofs.parts.Parts.entry_at.Goals as goal

pub loop-strip-init : goal.loop-strip-init
loop-strip-init c =
    let p = c.args.self.now in
    ap (entry_at c.args.place) (sections_all (tasks_of p.ahead) (tasks_of p.readers) (tasks_of p.behind))

pub returns-in-Some : goal.returns-in-Some
returns-in-Some c =
    found_at _ c.loop-strip.strip-index c.loop-strip.place c.in-Some.task c.strip-item.result c.direction-item.result _ c.loop-strip.invariant c.loop-strip-test.true (sym c.in-Some.ensures)

pub overflow_sub-place : goal.overflow_sub-place
overflow_sub-place c =
    let past = past_at _ c.loop-strip.strip-index c.loop-strip.place c.strip-item.result _ c.loop-strip.invariant c.loop-strip-test.true (sym c.in_default.ensures) in
    rw c.len-place.ensures.value past.0

pub loop-strip-preserved : goal.loop-strip-preserved
loop-strip-preserved c =
    let past = past_at _ c.loop-strip.strip-index c.loop-strip.place c.strip-item.result _ c.loop-strip.invariant c.loop-strip-test.true (sym c.in_default.ensures) in
    rw c.len-place.ensures.value past.1
