use Rattle.std.proofs.Common.{true, set, sym, ◌∙◌, subst}
use Rattle.std.proofs.lemmas.List.{length-set}
use Rattle.queue.proofs.Laws.{Lawful, placed_lawful}
use Rattle.queue.proofs.Sizes.{room_to_join}
use Rattle.strips.specs.Entries.{entries_of, Flagged}
use Rattle.strips.proofs.StripsWaitQueue.join.Goals as goal
use Rattle.strips.proofs.Flags.{lawful, may_join, flagged_placed}

pub place-requires : goal.place-requires
place-requires c =
    let q = c.args.self.now in
    room_to_join c.args.task (entries_of q.parts) q.in_range q.none_twice (may_join q c.args.task c.if-place-ge-PLACES.false c.if-self-place.false)

pub invariant_of-self : goal.invariant_of-self
invariant_of-self c =
    let q = c.args.self.now in
    let can = may_join q c.args.task c.if-place-ge-PLACES.false c.if-self-place.false in
    let after = sym c.place.ensures in
    let laws = subst Lawful after (placed_lawful c.args.task c.args.direction (entries_of q.parts) can (lawful q)) in
    let told = subst (Flagged (set q.present c.args.task true)) after (flagged_placed q.present c.args.task c.args.direction (entries_of q.parts) q.flags c.if-place-ge-PLACES.false q.flagged) in
    record {
      flags = length-set q.present _ _ ∙ q.flags;
      in_range = laws.in_range;
      none_twice = laws.none_twice;
      neighbours = laws.neighbours;
      flagged = told;
    }
