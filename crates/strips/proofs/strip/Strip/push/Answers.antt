use Rattle.std.proofs.Common.{◌∙◌, arith}
use Rattle.std.proofs.lemmas.List.{length-set}
use Rattle.strips.specs.Tasks.{tasks_of}
use Rattle.strips.proofs.strip.Strip.push.Goals as goal
use Rattle.strips.proofs.Content.{length_tasks, content_push}

pub invariant_of-self : goal.invariant_of-self
invariant_of-self c =
    let s = c.args.self.now in
    record { places = length-set s.tasks _ _ ∙ s.places; inside = s.inside; fits = omega (arith, length_tasks s) }

pub returns : goal.returns
unfolding tasks_of
returns c = content_push c.args.self.now c.args.task c.requires
