use Rattle.std.proofs.Common.{sym, ◌∙◌, arith}
use Rattle.std.proofs.lemmas.Option.{slice_get_within}
use Rattle.strips.specs.Tasks.{tasks_of}
use Rattle.strips.proofs.strip.Strip.take.Goals as goal
use Rattle.strips.proofs.Content.{length_tasks, content_take}

pub overflow_sub-self : goal.overflow_sub-self
overflow_sub-self c =
    let s = c.args.self.now in
    omega (arith, slice_get_within (tasks_of s) 0 c.in_ok-task.task (sym c.get.ensures ∙ c.in_ok-task.was), length_tasks s)

pub returns-clause-tasks : goal.returns-clause-tasks
unfolding tasks_of
returns-clause-tasks c =
    let s = c.args.self.now in
    content_take s (omega (arith, slice_get_within (tasks_of s) 0 c.in_ok-task.task (sym c.get.ensures ∙ c.in_ok-task.was), length_tasks s))
