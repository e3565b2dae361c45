-- Who waits in a queue, the tasks taken in a pass, and the lock that they leave. Assumes nothing.
use Rattle.std.specs.Prelude.{Bool, cond, List, [], ◌∷◌, Some, None, Option}
use Rattle.types.specs.declared.Direction.{Direction}
use Rattle.types.specs.declared.Direction.TheVariants.{Read, Write}
use Rattle.types.specs.declared.Entry.{Entry}
use Rattle.word.specs.Words.{Sizes}
use Rattle.queue.specs.Queues.{is_reader, has_reader}
use Rattle.rules.specs.Locks.{Lock, with_word, with_queue}
use Rattle.rules.specs.Steps.{has_writer, front_readers, behind_readers, admitted, holding_all}

-- What a pass takes from a queue: a writer at the front alone, or all readers at the front.
abbrev pub taken_by : List Entry → List Entry
taken_by [] = []
taken_by (e ∷ es) = cond (is_reader e) (front_readers (e ∷ es)) (e ∷ [])

-- The lock once all readers at the front of its queue are admitted and hold.
abbrev pub readers_taken : Sizes → Lock → Lock
readers_taken z l = holding_all (front_readers l.queue) (with_queue (behind_readers l.queue) (with_word (admitted z (front_readers l.queue) l.word) l))

-- The entry at the front, if it waits in that direction.
abbrev pub front : Direction → List Entry → Option Entry
front d [] = None
front Read (e ∷ es) = cond (is_reader e) (Some e) None
front Write (e ∷ es) = cond (is_reader e) None (Some e)

-- Some entry waits in that direction.
abbrev pub waits : Direction → List Entry → Bool
waits Read es = has_reader es
waits Write es = has_writer es
