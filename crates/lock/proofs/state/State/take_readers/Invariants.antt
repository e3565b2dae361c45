use Rattle.std.proofs.Common.{◌≡◌, length, map}
use Rattle.ring.specs.Held.{put_all}
use Rattle.ring.specs.HeldOf.{held_of, lent_name}
use Rattle.rules.specs.Steps.{front_readers}
use Rattle.rules.specs.Records.{notice_word}
use Rattle.lock.specs.Meaning.{lock_of}
use Rattle.lock.specs.Taken.{readers_taken}
use Rattle.lock.proofs.state.State.take_readers.Given as goal

-- What is left to take gives the lock and the rings in the end.
abbrev pub invariant-loop-reader : goal.invariant-loop-reader
invariant-loop-reader g l =
    let entries = g.Q.WaitQueue.entries in
    let meant = lock_of g.W.LockWord.meaning entries in
    let z = g.W.LockWord.sizes in
    record {
      notices_lent : lent_name l.notices ≡ lent_name l.initial.notices;
      archive_lent : lent_name l.archive ≡ lent_name l.initial.archive;
      lock : readers_taken z (meant l.self) ≡ readers_taken z (meant l.initial.self);
      notices : put_all (front_readers (entries l.self.queue)) (held_of l.notices) ≡ put_all (front_readers (entries l.initial.self.queue)) (held_of l.initial.notices);
      archive : put_all (map notice_word (front_readers (entries l.self.queue))) (held_of l.archive) ≡ put_all (map notice_word (front_readers (entries l.initial.self.queue))) (held_of l.initial.archive);
    }

abbrev pub decreases-loop-reader : goal.decreases-loop-reader
decreases-loop-reader g l = length (g.Q.WaitQueue.entries l.self.queue)
