-- Every call of a run keeps what holds of a lock, and does what a call can do. Assumes nothing.
use Rattle.std.proofs.Common.{◌≡◌, ℕ, ◌+◌, ◌-◌, ◌<◌, ◌≤◌, true, false, cond, not, ◌&&◌, ◌||◌, eqb, ltb, leb, List, [], ◌∷◌, length, get_or, set, Some, None, Option, sym, refl, ap, ◌∙◌, subst, inl, inr, arith}
use Rattle.std.proofs.lemmas.Bool.{cases_eq, cases_Bool, eq-eqb, ne_eqb, eqb-true, leb-false, and_parts, and_from, or_parts, cond-true, cond-false, cond_both, lt-ltb, true≢false, not-true, not-false}
use Rattle.std.proofs.lemmas.Bool.Decides.{nat_tests}
use Rattle.types.specs.Numbers.{outcome_number}
use Rattle.types.specs.declared.Direction.{Direction}
use Rattle.types.specs.declared.Direction.TheVariants.{Read, Write}
use Rattle.types.specs.declared.Entry.{Entry}
use Rattle.types.specs.declared.Verb.{Verb}
use Rattle.types.specs.declared.Verb.TheVariants.{ClaimRead, ClaimWrite, Move, Leave}
use Rattle.types.specs.declared.Outcome.{Outcome}
use Rattle.types.specs.declared.Outcome.TheVariants.{Claimed, Granted, Again, ToQueueLock, HasQueueLock, Busy, Out as LeftOut, Owes, Passed}
use Rattle.types.specs.declared.Refusal.{Refusal}
use Rattle.types.specs.declared.Refusal.TheVariants.{NotMade, NoSuchTask, NoticesFull, ArchiveFull}
use Rattle.word.specs.Words.{Sizes, Word, count, counted, marked, all_zero, can_enter_to_read, can_enter_to_write, can_leave_reading, leave_reading, can_leave_writing, leave_writing, mark_waiters, pass_to_writer, pass_to_readers}
use Rattle.queue.specs.Queues.{is_reader, has_reader, has_task, can_join, placed, join, readers_are_neighbours}
use Rattle.rules.specs.declared.Phase.{Phase}
use Rattle.rules.specs.declared.Phase.TheVariants.{Out, Claiming, AtQueueLock, Queueing, Queued, Holding, Owing, Passing}
use Rattle.rules.specs.declared.Row.{Row}
use Rattle.rules.specs.Locks.{Lock, out_row, row_of, phase_of, with_row, with_phase, with_word, with_queue, is_queue_locked}
use Rattle.rules.specs.Steps.{Done, plain, Answer, refused, Room, group_of, can_enter, enter, one_more_attempt, granted, in_vain, queued_up, queue_lock_tried, has_writer, front_readers, behind_readers, admitted, passed_to, passed_to_readers, passed, moved, claimed, gone, reader_gone, writer_gone, leaving, effect, unfit, recorded, after}
use Rattle.rules.specs.Runs.{Lawful, Seen, Call, seen_of, answer_to, claims_to}
use Rattle.rules.proofs.Tally.{tally_has}
use Rattle.rules.proofs.Rows.{phase_in, is_same_way, holds_to, queued_to, owes, writes, owing, reads_in, phase_here, phase_there, phase_set}
use Rattle.rules.proofs.Counts.{zero_none, none_zero, group_below, count_wide}
use Rattle.rules.proofs.Change
use Rattle.rules.proofs.Entries.{front_behind, front_reads, behind_writes}
use Rattle.rules.proofs.Sound.{Sound, Idle, sound_neutral, sound_enter_read, sound_enter_write, sound_leave_read, sound_owe_read, sound_leave_write, sound_owe_write, sound_join, may_join}
use Rattle.rules.proofs.Admit.{holding_rows, holding_all_lem}
use Rattle.rules.proofs.Pass.{front_all, readers_in_lem, sound_pass_read, sound_pass_write, writer_ready}
use Rattle.rules.proofs.Went.{Onward, claims, granted_at_once, granted_late, goes_again, goes_to_lock, locks_to_queue, locks_to_pass, busy_to_queue, busy_to_pass, leaves, comes_to_owe, Moved, Went, nowhere, onward, queues, passes}

pub record Kept (z : Sizes) (t : ℕ) (verb : Verb) (s : Option Seen) (l l' : Lock) : Type 0 where
  pub went : Went t verb s l l'
  pub sound : Sound z l'.rows l'.word l'.queue
  pub tasks : l'.tasks ≡ l.tasks

empty_queue : (q : List Entry) → has_writer q ≡ false → has_reader q ≡ false → q ≡ []
empty_queue [] w r = refl
empty_queue (e ∷ es) w r = absurd (let bad : true ≡ false = grind (arith, nat_tests) in true≢false bad)

direction_write : (d : Direction) → is_same_way Read d ≡ false → d ≡ Write
direction_write Write h = refl
direction_write Read h = absurd (true≢false h)

writer_way : (e : Entry) → is_reader e ≡ is_same_way Read e.direction
writer_way e = by_way e.direction
  where
    by_way : (d : Direction) → is_reader (record { task = e.task; direction = d }) ≡ is_same_way Read d
    by_way Read = refl
    by_way Write = refl

idle_claiming : (d : Direction) → Idle (Claiming d)
idle_claiming d = record { holds = λ d'. refl; queued = λ d'. refl; owed = refl }

idle_queueing : (d : Direction) → Idle (Queueing d)
idle_queueing d = record { holds = λ d'. refl; queued = λ d'. refl; owed = refl }

module _ (z : Sizes) (fine : Lawful z) (l : Lock) (s : Sound z l.rows l.word l.queue) (t : ℕ) (small : t < 64) (verb : Verb) where
  within : t < length l.rows
  within = let n = s.size in omega arith

  Fine : Done → Type 0
  Fine d = Kept z t verb (Some (record { outcome = d.outcome; taken = d.taken })) l d.lock

  moved_to : (row : Row) → Moved t row.phase l (with_row t row l)
  moved_to row x = phase_set l.rows t row within x

  moved_same : (p : Phase) → phase_of t l ≡ p → Moved t p l l
  moved_same p is x =
      elim (cases_eq x t) [
        | inl e ↦ ap (λ k. phase_of k l) e ∙ is ∙ sym (cond-true (eqb x t) p (phase_of x l) (eq-eqb x t e))
        | inr ne ↦ sym (cond-false (eqb x t) p (phase_of x l) (ne_eqb x t ne))
      ]

  -- the phase changes and nothing else
  neutral : (o : Outcome) (row : Row) (p : Phase) → phase_of t l ≡ p → Onward verb o p row.phase → (outcome_number o ≡ 1 → ⊥) → ((d : Direction) → holds_to d p ≡ holds_to d row.phase) → ((d : Direction) → queued_to d p ≡ queued_to d row.phase) → owes p ≡ owes row.phase
      → Fine (plain o (with_row t row l))
  unfolding Fine
  neutral o row p is way not1 h q w = record {
    went = onward o row.phase refl (subst (λ k. Onward verb o k row.phase) (sym is) way) (moved_to row) refl (λ e. absurd (not1 e));
    sound = sound_neutral z fine l.rows l.word l.queue s t small row (λ d. ap (holds_to d) is ∙ h d) (λ d. ap (queued_to d) is ∙ q d) (ap owes is ∙ w);
    tasks = refl;
  }

  busy : (p : Phase) → phase_of t l ≡ p → Onward verb Busy p p → Fine (plain Busy l)
  unfolding Fine
  busy p is way = record {
    went = onward Busy p refl (subst (λ k. Onward verb Busy k p) (sym is) way) (moved_same p is) refl (λ e. absurd (omega arith));
    sound = s;
    tasks = refl;
  }

  claim_fine : (d : Direction) → claims_to d verb ≡ true → phase_of t l ≡ Out → Fine (plain Claimed (with_row t (record { phase = Claiming d; attempts = 0 }) l))
  claim_fine d asks is = neutral Claimed (record { phase = Claiming d; attempts = 0 }) Out is (claims d asks) (λ e. omega arith) (λ d'. refl) (λ d'. refl) refl

  lock_fine : (p p' : Phase) → phase_of t l ≡ p → Onward verb Busy p p → Onward verb HasQueueLock p p' → ((d : Direction) → holds_to d p ≡ holds_to d p') → ((d : Direction) → queued_to d p ≡ queued_to d p') → owes p ≡ owes p' → Fine (queue_lock_tried t p' l)
  lock_fine p p' is stay go h q w =
      cond_both (is_queue_locked l.rows) (plain Busy l) (plain HasQueueLock (with_phase t p' l)) Fine
      (λ e. busy p is stay)
      (λ e. neutral HasQueueLock (record { phase = p'; attempts = (row_of t l).attempts }) p is go (λ k. omega arith) h q w)

  in_vain_fine : (d : Direction) → phase_of t l ≡ Claiming d → Fine (in_vain t d l)
  in_vain_fine d is =
      cond_both (leb (one_more_attempt (row_of t l).attempts) l.spin) _ _ Fine
      (λ e. neutral (Again (one_more_attempt (row_of t l).attempts)) (record { phase = Claiming d; attempts = one_more_attempt (row_of t l).attempts }) (Claiming d) is (goes_again _ d) (λ k. omega arith) (λ d'. refl) (λ d'. refl) refl)
      (λ e. neutral (ToQueueLock (one_more_attempt (row_of t l).attempts)) (record { phase = AtQueueLock d; attempts = one_more_attempt (row_of t l).attempts }) (Claiming d) is (goes_to_lock _ d) (λ k. omega arith) (λ d'. refl) (λ d'. refl) refl)

  -- who may enter finds nobody queued
  quiet : (d : Direction) → can_enter z t d l.word ≡ true → l.queue ≡ []
  quiet Read can =
      let j = s.core.behind in
      let ww : l.word.writers_wait ≡ false = grind (arith, nat_tests) in
      let rw' : l.word.readers_wait ≡ false = grind (arith, nat_tests) in
      empty_queue l.queue (sym s.writers ∙ ww) (sym s.readers ∙ rw')
  quiet Write can =
      let ww : l.word.writers_wait ≡ false = grind (arith, nat_tests) in
      let rw' : l.word.readers_wait ≡ false = grind (arith, nat_tests) in
      empty_queue l.queue (sym s.writers ∙ ww) (sym s.readers ∙ rw')

  entered : (d : Direction) (row : Row) → Idle (phase_of t l) → row.phase ≡ Holding d → can_enter z t d l.word ≡ true → Sound z (set l.rows t row) (enter z t d l.word) l.queue
  entered Read row idle is can =
      let unlocked : l.word.locked ≡ false = grind (arith, nat_tests) in
      let none : l.word.writers_wait ≡ false = grind (arith, nat_tests) in
      let g = group_of z t in
      subst (λ v. Sound z (set l.rows t row) v l.queue) (sym (cond-true (can_enter_to_read z g l.word) (counted g (count g l.word + 1) l.word) l.word can))
      (sound_enter_read z fine l.rows l.word l.queue s t small row idle is unlocked none)
  entered Write row idle is can =
      let unlocked : l.word.locked ≡ false = grind (arith, nat_tests) in
      let none : l.word.writers_wait ≡ false = grind (arith, nat_tests) in
      let none' : l.word.readers_wait ≡ false = grind (arith, nat_tests) in
      let all : all_zero l.word.counts ≡ true = grind (arith, nat_tests) in
      subst (λ v. Sound z (set l.rows t row) v l.queue) (sym (cond-true (can_enter_to_write l.word) (marked true l.word.writers_wait l.word.readers_wait l.word) l.word can))
      (sound_enter_write z fine l.rows l.word l.queue s t small row idle is unlocked none none' all)

  granted_fine : (d : Direction) (p : Phase) → phase_of t l ≡ p → Idle p → Onward verb (Granted (one_more_attempt (row_of t l).attempts)) p (Holding d) → can_enter z t d l.word ≡ true → Fine (granted z t d l)
  unfolding Fine
  granted_fine d p is idle way can =
      let row : Row = record { phase = Holding d; attempts = one_more_attempt (row_of t l).attempts } in
      record {
        went = onward (Granted (one_more_attempt (row_of t l).attempts)) (Holding d) refl (subst (λ k. Onward verb (Granted (one_more_attempt (row_of t l).attempts)) k (Holding d)) (sym is) way) (moved_to row) refl (λ e. quiet d can);
        sound = entered d row (subst Idle (sym is) idle) refl can;
        tasks = refl;
      }

  queued_fine : (d : Direction) → phase_of t l ≡ Queueing d → can_enter z t d l.word ≡ false → Fine (queued_up t d l)
  unfolding Fine
  queued_fine d is failed =
      let row : Row = record { phase = Queued d; attempts = one_more_attempt (row_of t l).attempts } in
      let idle : Idle (phase_of t l) = subst Idle (sym is) (idle_queueing d) in
      let joins : join t d l.queue ≡ placed t d l.queue = cond-true (can_join t l.queue) (placed t d l.queue) l.queue (may_join z fine l.rows l.word l.queue s t small row idle) in
      record {
        went = queues (one_more_attempt (row_of t l).attempts) d refl is (moved_to row) joins;
        sound = subst (Sound z (set l.rows t row) (mark_waiters d l.word)) (sym joins) (sound_join z fine l.rows l.word l.queue s t small row d idle refl failed);
        tasks = refl;
      }

  writer_gone_fine : phase_of t l ≡ Holding Write → Fine (writer_gone t l)
  unfolding Fine
  writer_gone_fine is =
      let held : l.word.locked ≡ true = s.core.held (tally_has (λ x. writes x (phase_of x l)) 64 t small (ap (holds_to Write) is)) in
      cond_both (not (can_leave_writing l.word)) _ _ Fine (owes_fine held) (out_fine held)
    where
      owes_fine : l.word.locked ≡ true → not (can_leave_writing l.word) ≡ true → Fine (plain Owes (with_phase t Owing (with_word (leave_writing l.word) l)))
      owes_fine held no' =
          let cannot = not-true (can_leave_writing l.word) no' in
          let same : leave_writing l.word ≡ l.word = cond-false (can_leave_writing l.word) _ l.word cannot in
          let some : (l.word.writers_wait || l.word.readers_wait) ≡ true = grind (arith, nat_tests) in
          let row : Row = record { phase = Owing; attempts = (row_of t l).attempts } in
          record {
            went = onward Owes Owing refl (subst (λ k. Onward verb Owes k Owing) (sym is) (comes_to_owe Write)) (moved_to row) refl (λ e. absurd (omega arith));
            sound = subst (λ v. Sound z (set l.rows t row) v l.queue) (sym same) (sound_owe_write z fine l.rows l.word l.queue s t small row is refl some);
            tasks = refl;
          }

      out_fine : l.word.locked ≡ true → not (can_leave_writing l.word) ≡ false → Fine (plain LeftOut (with_phase t Out (with_word (leave_writing l.word) l)))
      out_fine held yes' =
          let can = not-false (can_leave_writing l.word) yes' in
          let same : leave_writing l.word ≡ marked false l.word.writers_wait l.word.readers_wait l.word = cond-true (can_leave_writing l.word) _ l.word can in
          let none : l.word.writers_wait ≡ false = grind (arith, nat_tests) in
          let none' : l.word.readers_wait ≡ false = grind (arith, nat_tests) in
          let row : Row = record { phase = Out; attempts = (row_of t l).attempts } in
          record {
            went = onward LeftOut Out refl (subst (λ k. Onward verb LeftOut k Out) (sym is) (leaves Write)) (moved_to row) refl (λ e. absurd (omega arith));
            sound = subst (λ v. Sound z (set l.rows t row) v l.queue) (sym same) (sound_leave_write z fine l.rows l.word l.queue s t small row is refl none none');
            tasks = refl;
          }

  pub reader_word : phase_of t l ≡ Holding Read → leave_reading z (group_of z t) l.word ≡ counted (group_of z t) (count (group_of z t) l.word - 1) l.word
  reader_word is =
      let g = group_of z t in
      let low' = group_below z fine l.word l.rows s.wide s.agree t in
      let low = lt-ltb g z.groups low' in
      let here : reads_in z g t (phase_of t l) ≡ true = (let a = eq-eqb g g refl in let b : holds_to Read (phase_of t l) ≡ true = ap (holds_to Read) is in grind (arith, nat_tests)) in
      let some = tally_has (λ x. reads_in z g x (phase_of x l)) 64 t small here in
      let is' = s.agree g low' in
      let up = lt-ltb 0 (count g l.word) (omega arith) in
      cond-true (can_leave_reading z g l.word) _ l.word (and_from _ _ low up)

  reader_gone_fine : phase_of t l ≡ Holding Read → Fine (reader_gone z t l)
  unfolding Fine
  reader_gone_fine is =
      let g = group_of z t in
      let w₁ : Word = counted g (count g l.word - 1) l.word in
      subst (λ v. Fine (gone (all_zero v.counts && (v.writers_wait || v.readers_wait)) t v l)) (sym (reader_word is))
      (cond_both (all_zero w₁.counts && (w₁.writers_wait || w₁.readers_wait)) _ _ Fine
      (λ owes'.
      let row : Row = record { phase = Owing; attempts = (row_of t l).attempts } in
      let parts = and_parts (all_zero w₁.counts) (w₁.writers_wait || w₁.readers_wait) owes' in
      let agree = Change.agree_fall z fine l.rows l.word s.size s.wide s.agree t small row (ap (holds_to Read) is) refl in
      let wide = count_wide l.word g (count g l.word - 1) (Change.group_in z fine l.rows l.word s.size s.wide s.agree t small row) ∙ s.wide in
      record {
        went = onward Owes Owing refl (subst (λ k. Onward verb Owes k Owing) (sym is) (comes_to_owe Read)) (moved_to row) refl (λ e. absurd (omega arith));
        sound = sound_owe_read z fine l.rows l.word l.queue s t small row is refl (zero_none z fine w₁ (set l.rows t row) wide agree parts.0) parts.1;
        tasks = refl;
      })
      (λ free.
      let row : Row = record { phase = Out; attempts = (row_of t l).attempts } in
      let agree = Change.agree_fall z fine l.rows l.word s.size s.wide s.agree t small row (ap (holds_to Read) is) refl in
      let wide = count_wide l.word g (count g l.word - 1) (Change.group_in z fine l.rows l.word s.size s.wide s.agree t small row) ∙ s.wide in
      record {
        went = onward LeftOut Out refl (subst (λ k. Onward verb LeftOut k Out) (sym is) (leaves Read)) (moved_to row) refl (λ e. absurd (omega arith));
        sound = sound_leave_read z fine l.rows l.word l.queue s t small row is refl
            (λ last. let all = none_zero z fine w₁ (set l.rows t row) wide agree last in grind (arith, nat_tests));
        tasks = refl;
      }))

  out_row_lem : Row
  out_row_lem = record { phase = Out; attempts = (row_of t l).attempts }

  -- a pass finds somebody queued
  some_queued : phase_of t l ≡ Passing → l.queue ≡ [] → ⊥
  some_queued is none =
      let owed = s.core.owed (tally_has (λ x. owing x (phase_of x l)) 64 t small (ap owes is)) in
      let ww : l.word.writers_wait ≡ false = s.writers ∙ ap has_writer none in
      let rw' : l.word.readers_wait ≡ false = s.readers ∙ ap has_reader none in
      let bad : true ≡ false = grind (arith, nat_tests) in true≢false bad

  handed_over : (taken : List Entry) (d : Direction) (rows' : List Row) → ((x : ℕ) → has_task x taken ≡ true → phase_in rows' x ≡ Holding d) → ((x : ℕ) → has_task x taken ≡ false → phase_in rows' x ≡ cond (eqb x t) Out (phase_of x l))
      → (x : ℕ) → phase_in rows' x ≡ cond (has_task x taken) (Holding d) (cond (eqb x t) Out (phase_of x l))
  handed_over taken d rows' held left x =
      elim (cases_Bool (has_task x taken)) [
        | inl there ↦ held x there ∙ sym (cond-true (has_task x taken) _ _ there)
        | inr away ↦ left x away ∙ sym (cond-false (has_task x taken) _ _ away)
      ]

  pass_read_fine : (e : Entry) (es : List Entry) → phase_of t l ≡ Passing → l.queue ≡ e ∷ es → is_reader e ≡ true → Fine (passed_to_readers z t l)
  unfolding Fine out_row_lem
  pass_read_fine e es is q reads' =
      let taken = front_readers l.queue in
      let rest = behind_readers l.queue in
      let w₁ = admitted z taken (pass_to_readers (has_writer rest) l.word) in
      let a = readers_in_lem z fine l.rows l.word l.queue s t small is out_row_lem refl in
      let none : has_reader rest ≡ false = ap (λ k. has_reader (behind_readers k)) q ∙ behind_writes e es reads' (ap readers_are_neighbours (sym q) ∙ s.lawful.neighbours) in
      let base : Lock = with_phase t Out (with_queue rest (with_word w₁ l)) in
      let l₁ : Lock = record { tasks = l.tasks; spin = l.spin; rows = holding_rows taken (set l.rows t out_row_lem); word = w₁; queue = rest } in
      let result : Kept z t verb (Some (record { outcome = Passed (length taken); taken = taken })) l l₁ = record {
        went = passes taken Read refl is (handed_over taken Read l₁.rows a.taken (λ x away. a.left x away ∙ moved_to out_row_lem x)) (sym (front_behind l.queue)) (front_all taken (front_reads l.queue)) none;
        sound = sound_pass_read z fine l.rows l.word l.queue s t small is out_row_lem refl e es q reads';
        tasks = refl;
      } in
      subst (Kept z t verb (Some (record { outcome = Passed (length taken); taken = taken })) l) (sym (holding_all_lem taken base)) result

  pass_write_fine : (e : Entry) (es : List Entry) → phase_of t l ≡ Passing → l.queue ≡ e ∷ es → is_reader e ≡ false → Fine (passed_to t (e ∷ []) (pass_to_writer (has_writer es) (has_reader es) l.word) es l)
  unfolding Fine out_row_lem
  pass_write_fine e es is q writes' =
      let y = e.task in
      let rows₁ : List Row = set l.rows t out_row_lem in
      let row : Row = record { phase = Holding e.direction; attempts = (get_or rows₁ y out_row).attempts } in
      let way : e.direction ≡ Write = direction_write e.direction (sym (writer_way e) ∙ writes') in
      let ready = writer_ready z fine l.rows l.word l.queue s t small is out_row_lem refl e es q writes' in
      let within₂ : y < length rows₁ = (let n = Change.size' z fine l.rows l.word s.size s.wide s.agree t small out_row_lem in let m = ready.0 in omega arith) in
      record {
        went = passes (e ∷ []) Write refl is
            (handed_over (e ∷ []) Write (set rows₁ y row)
            (λ x there. let same : y ≡ x = eqb-true y x (let b = there in grind (arith, nat_tests)) in ap (phase_in (set rows₁ y row)) (sym same) ∙ phase_here rows₁ y row within₂ ∙ ap Holding way)
            (λ x away. phase_there rows₁ y row within₂ x (λ k. true≢false (sym (eq-eqb y x (sym k)) ∙ (or_parts (eqb y x) false away).0)) ∙ moved_to out_row_lem x))
            q (ap (λ d. is_same_way Write d && true) way) refl;
        sound = sound_pass_write z fine l.rows l.word l.queue s t small is out_row_lem refl e es row q writes' (ap Holding way);
        tasks = refl;
      }

  pass_fine : phase_of t l ≡ Passing → (q : List Entry) → l.queue ≡ q → Fine (passed z t l q)
  pass_fine is [] none = absurd (some_queued is none)
  pass_fine is (e ∷ es) q = cond_both (is_reader e) _ _ Fine (pass_read_fine e es is q) (pass_write_fine e es is q)

  -- What holds of what a call comes to, if it comes to anything.
  OnSome : Option Done → Type 0
  OnSome None = Unit {0}
  OnSome (Some d) = Fine d

  moved_fine : (p : Phase) → phase_of t l ≡ p → OnSome (moved z t l p)
  unfolding OnSome
  moved_fine Out is = tt
  moved_fine (Claiming d) is = cond_both (can_enter z t d l.word) _ _ Fine (granted_fine d (Claiming d) is (idle_claiming d) (granted_at_once _ d)) (λ failed. in_vain_fine d is)
  moved_fine (AtQueueLock d) is = lock_fine (AtQueueLock d) (Queueing d) is (busy_to_queue d) (locks_to_queue d) (λ d'. refl) (λ d'. refl) refl
  moved_fine (Queueing d) is = cond_both (can_enter z t d l.word) _ _ Fine (granted_fine d (Queueing d) is (idle_queueing d) (granted_late _ d)) (queued_fine d is)
  moved_fine (Queued d) is = tt
  moved_fine (Holding d) is = tt
  moved_fine Owing is = lock_fine Owing Passing is busy_to_pass locks_to_pass (λ d'. refl) (λ d'. refl) refl
  moved_fine Passing is = pass_fine is l.queue refl

  claimed_fine : (d : Direction) → claims_to d verb ≡ true → (p : Phase) → phase_of t l ≡ p → OnSome (claimed t d l p)
  unfolding OnSome
  claimed_fine d asks Out is = claim_fine d asks is
  claimed_fine d asks (Claiming d') is = tt
  claimed_fine d asks (AtQueueLock d') is = tt
  claimed_fine d asks (Queueing d') is = tt
  claimed_fine d asks (Queued d') is = tt
  claimed_fine d asks (Holding d') is = tt
  claimed_fine d asks Owing is = tt
  claimed_fine d asks Passing is = tt

  leaving_fine : (p : Phase) → phase_of t l ≡ p → OnSome (leaving z t l p)
  unfolding OnSome
  leaving_fine Out is = tt
  leaving_fine (Claiming d) is = tt
  leaving_fine (AtQueueLock d) is = tt
  leaving_fine (Queueing d) is = tt
  leaving_fine (Queued d) is = tt
  leaving_fine (Holding Read) is = reader_gone_fine is
  leaving_fine (Holding Write) is = writer_gone_fine is
  leaving_fine Owing is = tt
  leaving_fine Passing is = tt

  -- What holds of an answer.
  FineAnswer : Answer → Type 0
  FineAnswer a = Kept z t verb (seen_of a) l (after l a)

  refused_fine : (r : Refusal) → FineAnswer (refused r)
  unfolding FineAnswer
  refused_fine r = record { went = nowhere refl refl; sound = s; tasks = refl }

  recorded_fine : (r : Refusal) (room : Room) (o : Option Done) → OnSome o → FineAnswer (recorded r room o)
  unfolding OnSome FineAnswer Fine
  recorded_fine r room None h = refused_fine r
  recorded_fine r room (Some d) h =
      cond_both (ltb room.notices (length d.taken)) _ _ FineAnswer (λ e. refused_fine NoticesFull)
      (λ e. cond_both (ltb room.archive (2 + length d.taken)) _ _ FineAnswer (λ e'. refused_fine ArchiveFull) (λ e'. h))

module _ (z : Sizes) (fine : Lawful z) (l : Lock) (s : Sound z l.rows l.word l.queue) (few : l.tasks ≤ 64) where
  effect_fine : (verb : Verb) (t : ℕ) (small : t < 64) → OnSome z fine l s t small verb (effect z verb t l)
  effect_fine ClaimRead t small = claimed_fine z fine l s t small ClaimRead Read refl (phase_of t l) refl
  effect_fine ClaimWrite t small = claimed_fine z fine l s t small ClaimWrite Write refl (phase_of t l) refl
  effect_fine Move t small = moved_fine z fine l s t small Move (phase_of t l) refl
  effect_fine Leave t small = leaving_fine z fine l s t small Leave (phase_of t l) refl

  nothing_done : (t : ℕ) (verb : Verb) (r : Refusal) → Kept z t verb (seen_of (refused r)) l (after l (refused r))
  nothing_done t verb r = record { went = nowhere refl refl; sound = s; tasks = refl }

  -- every call keeps what holds, and does what a call can do
  pub step_kept : (c : Call) → Kept z c.task c.verb (seen_of (answer_to z c l)) l (after l (answer_to z c l))
  unfolding FineAnswer
  step_kept c =
      let P : Answer → Type 0 = λ a. Kept z c.task c.verb (seen_of a) l (after l a) in
      cond_both (eqb l.tasks 0) _ _ P (λ e. nothing_done c.task c.verb NotMade)
      (λ e. cond_both (leb l.tasks c.task) _ _ P (λ e'. nothing_done c.task c.verb NoSuchTask)
      (λ e'.
      let below = leb-false l.tasks c.task e' in
      let small : c.task < 64 = omega arith in
      recorded_fine z fine l s c.task small c.verb (unfit c.verb) c.room (effect z c.verb c.task l) (effect_fine c.verb c.task small)))
