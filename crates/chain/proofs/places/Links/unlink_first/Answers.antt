use Rattle.std.proofs.Common.{false, sym, refl, ap, ◌∙◌, arith}
use Rattle.std.proofs.lemmas.List.{length-set}
use Rattle.queue.specs.Queues.{has_task, reader_count}
use Rattle.chain.specs.Walks.{place_at, last_task, last_reader_of}
use Rattle.chain.specs.declared.places.Place.{Place}
use Rattle.chain.proofs.Walks.{head_small}
use Rattle.chain.proofs.Links.{dropped_queue, dropped_flags, dropped_tail, dropped_reader, dropped_some, dropped_count}
use Rattle.chain.proofs.places.Links.unlink_first.Goals as goal

pub bounds-self-task : goal.bounds-self-task
bounds-self-task c = let l = c.args.self.now in head_small l.places l.len l.head c.requires.some c.requires.laws.0

pub bounds-self-task-2 : goal.bounds-self-task-2
bounds-self-task-2 c = let l = c.args.self.now in head_small l.places l.len l.head c.requires.some c.requires.laws.0

pub overflow_sub-self-2 : goal.overflow_sub-self-2
overflow_sub-self-2 c =
    let l = c.args.self.now in
    let inside = head_small l.places l.len l.head c.requires.some c.requires.laws.0 in
    omega (arith, c.readers_in.ensures, dropped_some l c.requires.laws c.requires.agrees c.requires.some inside)

pub returns : goal.returns
returns c =
    let l = c.args.self.now in
    let laws = c.requires.laws in
    let agrees = c.requires.agrees in
    let some = c.requires.some in
    let inside = head_small l.places l.len l.head some laws.0 in
    let left : Place = record { next = (place_at l.places l.head).next; direction = (place_at l.places l.head).direction; present = false } in
    let queue = dropped_queue l laws agrees some inside left in
    record {
      queue = queue;
      agrees = (
        length-set l.places l.head left ∙ agrees.0,
        λ t small. dropped_flags l laws agrees some inside left refl t small ∙ sym (ap (has_task t) queue),
        c.except-self.ensures ∙ sym (ap last_task queue ∙ dropped_tail l laws agrees some inside),
        c.except-self-2.ensures ∙ sym (ap last_reader_of queue ∙ dropped_reader l laws agrees some inside),
        omega (arith, c.readers_in.ensures, ap reader_count queue, dropped_count l laws agrees some inside),
      );
    }
