-- What holds of a lock after every step of a run, and that each change of a row, the word and the queue keeps it. Assumes nothing.
use Rattle.std.proofs.Common.{◌≡◌, ℕ, ◌+◌, ◌-◌, ◌%◌, ◌<◌, Bool, true, false, ◌&&◌, ◌||◌, eqb, List, [], length, get_or, set, replicate, sym, refl, ap, ◌∙◌, inl, inr, arith}
use Rattle.std.proofs.lemmas.List.{length-replicate, get_or-replicate}
use Rattle.std.proofs.lemmas.Bool.{cases_eq, eq-eqb, ne_eqb, lt-ltb, true≢false}
use Rattle.std.proofs.lemmas.Bool.Decides.{nat_tests}
use Rattle.types.specs.declared.Direction.{Direction}
use Rattle.types.specs.declared.Direction.TheVariants.{Read, Write}
use Rattle.types.specs.declared.Entry.{Entry}
use Rattle.word.specs.Words.{Sizes, Word, count, counted, marked, can_enter_to_read, can_enter_to_write, mark_waiters, all_zero, fresh_word}
use Rattle.queue.specs.Queues.{has_reader, has_task, can_join, placed}
use Rattle.queue.proofs.Laws.{Lawful as LawfulQueue, placed_lawful}
use Rattle.rules.specs.declared.Phase.{Phase}
use Rattle.rules.specs.declared.Phase.TheVariants.{Out, Queued, Holding, Owing}
use Rattle.rules.specs.declared.Row.{Row}
use Rattle.rules.specs.Locks.{out_row}
use Rattle.rules.specs.Steps.{group_of, can_enter, has_writer}
use Rattle.rules.specs.Runs.{Lawful}
use Rattle.rules.proofs.Rows.{phase_in, is_same_way, holds_to, queued_to, owes, total, reads, writes, owing, reads_in, phase_here, phase_there, total_fresh, phase_fresh}
use Rattle.rules.proofs.Core.{Core, core_at, core_fresh, core_enter_read, core_enter_write, core_mark_read, core_mark_write, core_leave_read, core_owe_read, core_leave_write, core_owe_write}
use Rattle.rules.proofs.Change
use Rattle.rules.proofs.Counts.{Counted, zero_none, none_zero, below_limit, group_below, count_wide}
use Rattle.rules.proofs.Entries.{has_entry, task_entry, placed_entry, placed_writer, placed_reader}

pub record Sound (z : Sizes) (rows : List Row) (w : Word) (q : List Entry) : Type 0 where
  pub size : length rows ≡ 64
  pub wide : length w.counts ≡ z.groups
  pub agree : Counted z w rows
  pub lawful : LawfulQueue q
  pub listed : (x : ℕ) (d : Direction) → has_entry x d q ≡ queued_to d (phase_in rows x)
  pub writers : w.writers_wait ≡ has_writer q
  pub readers : w.readers_wait ≡ has_reader q
  pub core : Core (total writes rows) (total reads rows) (total owing rows) w.locked w.writers_wait w.readers_wait

-- The task holds nothing, is not queued and owes nothing.
pub record Idle (p : Phase) : Type 0 where
  pub holds : (d : Direction) → holds_to d p ≡ false
  pub queued : (d : Direction) → queued_to d p ≡ false
  pub owed : owes p ≡ false

or_false : (b : Bool) → (b || false) ≡ b
or_false true = refl
or_false false = refl

-- the marks stay
numbers_at : {w w' r r' o o' : ℕ} {lk ww rw' : Bool} → w ≡ w' → r ≡ r' → o ≡ o' → Core w r o lk ww rw' → Core w' r' o' lk ww rw'
numbers_at e f g c = core_at e f g refl refl refl c

pub sound_fresh : (z : Sizes) → Sound z (replicate 64 out_row) (fresh_word z) []
sound_fresh z = record {
  size = length-replicate 64 out_row;
  wide = length-replicate z.groups 0;
  agree = λ g h. get_or-replicate z.groups g 0 0 h ∙ sym (total_fresh (reads_in z g) 64 (λ x. grind (arith, nat_tests)));
  lawful = record { in_range = refl; none_twice = refl; neighbours = refl };
  listed = λ x d. sym (ap (queued_to d) (phase_fresh 64 x));
  writers = refl;
  readers = refl;
  core = numbers_at (sym (total_fresh writes 64 (λ x. refl))) (sym (total_fresh reads 64 (λ x. refl))) (sym (total_fresh owing 64 (λ x. refl))) core_fresh;
}

module _ (z : Sizes) (fine : Lawful z) (rows : List Row) (w : Word) (q : List Entry) (s : Sound z rows w q) (t : ℕ) (small : t < 64) (row : Row) where
  within : t < length rows
  within = Change.within z fine rows w s.size s.wide s.agree t small row

  stays : (f : ℕ → Phase → Bool) → f t (phase_in rows t) ≡ f t row.phase → total f rows ≡ total f (set rows t row)
  stays = Change.stays z fine rows w s.size s.wide s.agree t small row

  rises : (f : ℕ → Phase → Bool) → f t (phase_in rows t) ≡ false → f t row.phase ≡ true → total f rows + 1 ≡ total f (set rows t row)
  rises = Change.rises z fine rows w s.size s.wide s.agree t small row

  falls : (f : ℕ → Phase → Bool) → f t (phase_in rows t) ≡ true → f t row.phase ≡ false → total f rows ≡ total f (set rows t row) + 1
  falls = Change.falls z fine rows w s.size s.wide s.agree t small row

  size' : length (set rows t row) ≡ 64
  size' = Change.size' z fine rows w s.size s.wide s.agree t small row

  group_in : group_of z t < length w.counts
  group_in = Change.group_in z fine rows w s.size s.wide s.agree t small row

  agree_rise : holds_to Read (phase_in rows t) ≡ false → holds_to Read row.phase ≡ true → Counted z (counted (group_of z t) (count (group_of z t) w + 1) w) (set rows t row)
  agree_rise = Change.agree_rise z fine rows w s.size s.wide s.agree t small row

  agree_fall : holds_to Read (phase_in rows t) ≡ true → holds_to Read row.phase ≡ false → Counted z (counted (group_of z t) (count (group_of z t) w - 1) w) (set rows t row)
  agree_fall = Change.agree_fall z fine rows w s.size s.wide s.agree t small row

  agree_same : holds_to Read (phase_in rows t) ≡ holds_to Read row.phase → Counted z w (set rows t row)
  agree_same = Change.agree_same z fine rows w s.size s.wide s.agree t small row

  -- the queue lists the same tasks where the changed one is queued neither before nor after, or both
  listed' : ((d : Direction) → queued_to d (phase_in rows t) ≡ queued_to d row.phase) → (x : ℕ) (d : Direction) → has_entry x d q ≡ queued_to d (phase_in (set rows t row) x)
  listed' same x d =
      elim (cases_eq x t) [
        | inl e ↦ s.listed x d ∙ ap (λ k. queued_to d (phase_in rows k)) e ∙ same d ∙ sym (ap (queued_to d) (ap (phase_in (set rows t row)) e ∙ phase_here rows t row within))
        | inr ne ↦ s.listed x d ∙ sym (ap (queued_to d) (phase_there rows t row within x ne))
      ]

  -- the task goes on without entering, leaving, queueing or owing
  pub sound_neutral : ((d : Direction) → holds_to d (phase_in rows t) ≡ holds_to d row.phase) → ((d : Direction) → queued_to d (phase_in rows t) ≡ queued_to d row.phase) → owes (phase_in rows t) ≡ owes row.phase → Sound z (set rows t row) w q
  sound_neutral holds queued owed = record {
    size = size';
    wide = s.wide;
    agree = λ g h. s.agree g h ∙ stays (reads_in z g) (ap (λ b. eqb (t % z.groups) g && b) (holds Read));
    lawful = s.lawful;
    listed = listed' queued;
    writers = s.writers;
    readers = s.readers;
    core = numbers_at (stays writes (holds Write)) (stays reads (holds Read)) (stays owing owed) s.core;
  }

  -- an idle task enters to read
  pub sound_enter_read : Idle (phase_in rows t) → row.phase ≡ Holding Read → w.locked ≡ false → w.writers_wait ≡ false → Sound z (set rows t row) (counted (group_of z t) (count (group_of z t) w + 1) w) q
  sound_enter_read idle is unlocked none = record {
    size = size';
    wide = count_wide w (group_of z t) (count (group_of z t) w + 1) group_in ∙ s.wide;
    agree = agree_rise (idle.holds Read) (ap (holds_to Read) is);
    lawful = s.lawful;
    listed = listed' (λ d. idle.queued d ∙ sym (ap (queued_to d) is));
    writers = s.writers;
    readers = s.readers;
    core = numbers_at (stays writes (idle.holds Write ∙ sym (ap (holds_to Write) is))) (rises reads (idle.holds Read) (ap (holds_to Read) is)) (stays owing (idle.owed ∙ sym (ap owes is))) (core_enter_read s.core unlocked none);
  }

  -- an idle task enters to write
  pub sound_enter_write : Idle (phase_in rows t) → row.phase ≡ Holding Write → w.locked ≡ false → w.writers_wait ≡ false → w.readers_wait ≡ false → all_zero w.counts ≡ true → Sound z (set rows t row) (marked true w.writers_wait w.readers_wait w) q
  sound_enter_write idle is unlocked none none' all = record {
    size = size';
    wide = s.wide;
    agree = agree_same (idle.holds Read ∙ sym (ap (holds_to Read) is));
    lawful = s.lawful;
    listed = listed' (λ d. idle.queued d ∙ sym (ap (queued_to d) is));
    writers = s.writers;
    readers = s.readers;
    core = numbers_at (rises writes (idle.holds Write) (ap (holds_to Write) is)) (stays reads (idle.holds Read ∙ sym (ap (holds_to Read) is))) (stays owing (idle.owed ∙ sym (ap owes is)))
        (core_enter_write s.core unlocked none none' (zero_none z fine w rows s.wide s.agree all));
  }

  -- a reader leaves, and is out
  pub sound_leave_read : phase_in rows t ≡ Holding Read → row.phase ≡ Out → (total reads (set rows t row) ≡ 0 → (w.writers_wait || w.readers_wait) ≡ false) → Sound z (set rows t row) (counted (group_of z t) (count (group_of z t) w - 1) w) q
  sound_leave_read was is why = record {
    size = size';
    wide = count_wide w (group_of z t) (count (group_of z t) w - 1) group_in ∙ s.wide;
    agree = agree_fall (ap (holds_to Read) was) (ap (holds_to Read) is);
    lawful = s.lawful;
    listed = listed' (λ d. ap (queued_to d) was ∙ sym (ap (queued_to d) is));
    writers = s.writers;
    readers = s.readers;
    core = numbers_at (stays writes (ap (holds_to Write) was ∙ sym (ap (holds_to Write) is))) refl (stays owing (ap owes was ∙ sym (ap owes is)))
        (core_leave_read (numbers_at refl (falls reads (ap (holds_to Read) was) (ap (holds_to Read) is)) refl s.core) why);
  }

  -- the last reader leaves, and owes
  pub sound_owe_read : phase_in rows t ≡ Holding Read → row.phase ≡ Owing → total reads (set rows t row) ≡ 0 → (w.writers_wait || w.readers_wait) ≡ true → Sound z (set rows t row) (counted (group_of z t) (count (group_of z t) w - 1) w) q
  sound_owe_read was is last some = record {
    size = size';
    wide = count_wide w (group_of z t) (count (group_of z t) w - 1) group_in ∙ s.wide;
    agree = agree_fall (ap (holds_to Read) was) (ap (holds_to Read) is);
    lawful = s.lawful;
    listed = listed' (λ d. ap (queued_to d) was ∙ sym (ap (queued_to d) is));
    writers = s.writers;
    readers = s.readers;
    core = numbers_at (stays writes (ap (holds_to Write) was ∙ sym (ap (holds_to Write) is))) refl (rises owing (ap owes was) (ap owes is))
        (core_owe_read (numbers_at refl (falls reads (ap (holds_to Read) was) (ap (holds_to Read) is)) refl s.core) last some);
  }

  -- a writer leaves, and is out
  pub sound_leave_write : phase_in rows t ≡ Holding Write → row.phase ≡ Out → w.writers_wait ≡ false → w.readers_wait ≡ false → Sound z (set rows t row) (marked false w.writers_wait w.readers_wait w) q
  sound_leave_write was is none none' = record {
    size = size';
    wide = s.wide;
    agree = agree_same (ap (holds_to Read) was ∙ sym (ap (holds_to Read) is));
    lawful = s.lawful;
    listed = listed' (λ d. ap (queued_to d) was ∙ sym (ap (queued_to d) is));
    writers = s.writers;
    readers = s.readers;
    core = numbers_at refl (stays reads (ap (holds_to Read) was ∙ sym (ap (holds_to Read) is))) (stays owing (ap owes was ∙ sym (ap owes is)))
        (core_leave_write (numbers_at (falls writes (ap (holds_to Write) was) (ap (holds_to Write) is)) refl refl s.core) none none');
  }

  -- a writer leaves, and owes
  pub sound_owe_write : phase_in rows t ≡ Holding Write → row.phase ≡ Owing → (w.writers_wait || w.readers_wait) ≡ true → Sound z (set rows t row) w q
  sound_owe_write was is some = record {
    size = size';
    wide = s.wide;
    agree = agree_same (ap (holds_to Read) was ∙ sym (ap (holds_to Read) is));
    lawful = s.lawful;
    listed = listed' (λ d. ap (queued_to d) was ∙ sym (ap (queued_to d) is));
    writers = s.writers;
    readers = s.readers;
    core = numbers_at refl (stays reads (ap (holds_to Read) was ∙ sym (ap (holds_to Read) is))) (rises owing (ap owes was) (ap owes is))
        (core_owe_write (numbers_at (falls writes (ap (holds_to Write) was) (ap (holds_to Write) is)) refl refl s.core) some);
  }

  -- a task that is idle may join
  pub may_join : Idle (phase_in rows t) → can_join t q ≡ true
  may_join idle =
      let absent : has_task t q ≡ false = task_entry t q (s.listed t Read ∙ idle.queued Read) (s.listed t Write ∙ idle.queued Write) in
      let low = lt-ltb t 64 small in
      grind (arith, nat_tests)

  -- an attempt in vain did not fail for want of room
  refused_read : Idle (phase_in rows t) → can_enter_to_read z (group_of z t) w ≡ false → (w.locked || w.writers_wait) ≡ true
  refused_read idle failed =
      let room = lt-ltb (count (group_of z t) w) z.limit (below_limit z fine w rows s.wide s.agree t small (idle.holds Read)) in
      let low = lt-ltb (group_of z t) z.groups (group_below z fine w rows s.wide s.agree t) in
      grind (arith, nat_tests)

  refused_write : can_enter_to_write w ≡ false → (w.locked || (w.writers_wait || w.readers_wait)) ≡ false → 0 < total reads rows
  refused_write failed quiet =
      elim (cases_eq (total reads rows) 0) [
        | inl none ↦ let all = none_zero z fine w rows s.wide s.agree none in absurd (let bad : true ≡ false = grind (arith, nat_tests) in true≢false bad)
        | inr some ↦ omega arith
      ]

  refused_core : (d : Direction) → Idle (phase_in rows t) → can_enter z t d w ≡ false → Core (total writes rows) (total reads rows) (total owing rows) (mark_waiters d w).locked (mark_waiters d w).writers_wait (mark_waiters d w).readers_wait
  refused_core Read idle failed = core_mark_read s.core (refused_read idle failed)
  refused_core Write idle failed = core_mark_write s.core (refused_write failed)

  marked_writers : (d : Direction) → (mark_waiters d w).writers_wait ≡ has_writer (placed t d q)
  marked_writers Read = s.writers ∙ sym (placed_writer t Read q)
  marked_writers Write = sym (placed_writer t Write q)

  marked_readers : (d : Direction) → (mark_waiters d w).readers_wait ≡ has_reader (placed t d q)
  marked_readers Read = sym (placed_reader t Read q)
  marked_readers Write = s.readers ∙ sym (placed_reader t Write q)

  marked_counts : (d : Direction) → (mark_waiters d w).counts ≡ w.counts
  marked_counts Read = refl
  marked_counts Write = refl

  listed_join : (d : Direction) → Idle (phase_in rows t) → row.phase ≡ Queued d → (x : ℕ) (d' : Direction) → has_entry x d' (placed t d q) ≡ queued_to d' (phase_in (set rows t row) x)
  listed_join d idle is x d' =
      elim (cases_eq x t) [
        | inl e ↦
            let there : has_entry x d' q ≡ false = s.listed x d' ∙ ap (λ k. queued_to d' (phase_in rows k)) e ∙ idle.queued d' in
            let same = eq-eqb t x (sym e) in
            let after : phase_in (set rows t row) x ≡ Queued d = ap (phase_in (set rows t row)) e ∙ phase_here rows t row within ∙ is in
            placed_entry t d q x d' ∙ rw (same, there) (or_false (is_same_way d' d)) ∙ sym (ap (queued_to d') after)
        | inr ne ↦
            let other = ne_eqb t x (λ k. ne (sym k)) in
            placed_entry t d q x d' ∙ rw other (s.listed x d') ∙ sym (ap (queued_to d') (phase_there rows t row within x ne))
      ]

  -- an idle task joins the queue, after an attempt in vain
  pub sound_join : (d : Direction) → Idle (phase_in rows t) → row.phase ≡ Queued d → can_enter z t d w ≡ false → Sound z (set rows t row) (mark_waiters d w) (placed t d q)
  sound_join d idle is failed = record {
    size = size';
    wide = ap length (marked_counts d) ∙ s.wide;
    agree = λ g h. ap (λ ns. get_or ns g 0) (marked_counts d) ∙ agree_same (idle.holds Read ∙ sym (ap (holds_to Read) is)) g h;
    lawful = placed_lawful t d q (may_join idle) s.lawful;
    listed = listed_join d idle is;
    writers = marked_writers d;
    readers = marked_readers d;
    core = numbers_at (stays writes (idle.holds Write ∙ sym (ap (holds_to Write) is))) (stays reads (idle.holds Read ∙ sym (ap (holds_to Read) is))) (stays owing (idle.owed ∙ sym (ap owes is))) (refused_core d idle failed);
  }
