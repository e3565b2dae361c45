-- A pass keeps what holds of a lock. Assumes nothing.
use Rattle.std.proofs.Common.{◌≡◌, ℕ, ◌+◌, ◌<◌, Bool, true, false, not, ◌||◌, eqb, ltb, List, [], ◌∷◌, ◌++◌, length, set, sym, refl, ap, ◌∙◌, subst, inl, inr, arith}
use Rattle.std.proofs.lemmas.Bool.{cases_eq, cases_Bool, eq-eqb, ne_eqb, eqb-true, ltb-true, and_parts, or_parts, cond-true, cond_both, true≢false}
use Rattle.std.proofs.lemmas.Bool.Decides.{nat_tests}
use Rattle.types.specs.declared.Direction.{Direction}
use Rattle.types.specs.declared.Direction.TheVariants.{Read, Write}
use Rattle.types.specs.declared.Entry.{Entry}
use Rattle.word.specs.Words.{Sizes, Word, marked, all_zero, pass_to_readers, pass_to_writer}
use Rattle.queue.specs.Queues.{is_reader, has_reader, has_task, tasks_in_range, no_task_twice, readers_are_neighbours}
use Rattle.queue.proofs.Laws.{Lawful as LawfulQueue, rest_lawful}
use Rattle.queue.proofs.Places.{has_task_append}
use Rattle.rules.specs.declared.Phase.{Phase}
use Rattle.rules.specs.declared.Phase.TheVariants.{Out, Claiming, AtQueueLock, Queueing, Queued, Holding, Owing, Passing}
use Rattle.rules.specs.declared.Row.{Row}
use Rattle.rules.specs.Steps.{has_writer, front_readers, behind_readers, admitted}
use Rattle.rules.specs.Runs.{Lawful}
use Rattle.rules.proofs.Rows.{phase_in, holds_to, queued_to, owes, total, reads, writes, owing, phase_here, phase_there}
use Rattle.rules.proofs.Core.{Core, core_at, core_pass_write, core_pass_read}
use Rattle.rules.proofs.Counts.{Counted, none_zero}
use Rattle.rules.proofs.Change
use Rattle.rules.proofs.Entries.{has_entry, entry_append, entry_task, task_entry, front_behind, front_reads, behind_writes}
use Rattle.rules.proofs.Sound.{Sound}
use Rattle.rules.proofs.Went.{all_to}
use Rattle.rules.proofs.Admit.{Admitted, admit_all, holding_rows}

pub queued_is : (d : Direction) (p : Phase) → queued_to d p ≡ true → p ≡ Queued d
queued_is Read (Queued Read) h = refl
queued_is Write (Queued Write) h = refl
queued_is Read (Queued Write) h = absurd (true≢false (sym h))
queued_is Write (Queued Read) h = absurd (true≢false (sym h))
queued_is d Out h = absurd (true≢false (sym h))
queued_is d (Claiming d') h = absurd (true≢false (sym h))
queued_is d (AtQueueLock d') h = absurd (true≢false (sym h))
queued_is d (Queueing d') h = absurd (true≢false (sym h))
queued_is d (Holding d') h = absurd (true≢false (sym h))
queued_is d Owing h = absurd (true≢false (sym h))
queued_is d Passing h = absurd (true≢false (sym h))

-- with no task twice, none is in both parts
once_apart : (x : ℕ) (xs ys : List Entry) → no_task_twice (xs ++ ys) ≡ true → has_task x xs ≡ true → has_task x ys ≡ false
once_apart x [] ys once h = absurd (true≢false (sym h))
once_apart x (e ∷ xs) ys once h =
    let parts = and_parts (not (has_task e.task (xs ++ ys))) (no_task_twice (xs ++ ys)) once in
    let joined = has_task_append e.task xs ys in
    let ih = once_apart x xs ys parts.1 in
    elim (cases_eq e.task x) [
      | inl q ↦ let none : has_task e.task ys ≡ false = grind (arith, nat_tests) in ap (λ k. has_task k ys) (sym q) ∙ none
      | inr ne ↦ ih (let d = ne_eqb e.task x ne in grind (arith, nat_tests))
    ]

pub once_front : (xs ys : List Entry) → no_task_twice (xs ++ ys) ≡ true → no_task_twice xs ≡ true
once_front [] ys once = refl
once_front (e ∷ xs) ys once =
    let parts = and_parts (not (has_task e.task (xs ++ ys))) (no_task_twice (xs ++ ys)) once in
    let joined = has_task_append e.task xs ys in
    let ih = once_front xs ys parts.1 in
    grind (arith, nat_tests)

no_entry : (x : ℕ) (d : Direction) (es : List Entry) → has_task x es ≡ false → has_entry x d es ≡ false
no_entry x d es none = elim (cases_Bool (has_entry x d es)) [ inl h ↦ absurd (true≢false (sym (entry_task x d es h) ∙ none)) | inr h ↦ h ]

all_entry : (d x : ℕ) (es : List Entry) → has_writer es ≡ false → has_task x es ≡ true → has_entry x Read es ≡ true
all_entry d x [] none h = h
all_entry d x (e ∷ es) none h = let ih = all_entry d x es in grind (arith, nat_tests)

pub front_all : (es : List Entry) → has_writer es ≡ false → all_to Read es ≡ true
front_all [] none = refl
front_all (e ∷ es) none = let ih = front_all es in grind (arith, nat_tests)

pub range_task : (x : ℕ) (es : List Entry) → tasks_in_range es ≡ true → has_task x es ≡ true → x < 64
range_task x [] fine h = absurd (true≢false (sym h))
range_task x (e ∷ es) fine h =
    let parts = and_parts (ltb e.task 64) (tasks_in_range es) fine in
    let ih = range_task x es parts.1 in
    elim (cases_eq e.task x) [
      | inl q ↦ let small = ltb-true e.task 64 parts.0 in omega arith
      | inr ne ↦ ih (let d = ne_eqb e.task x ne in grind (arith, nat_tests))
    ]

behind_lawful : (es : List Entry) → LawfulQueue es → LawfulQueue (behind_readers es)
behind_lawful [] fine = fine
behind_lawful (e ∷ es) fine = cond_both (is_reader e) (behind_readers es) (e ∷ es) LawfulQueue (λ h. behind_lawful es (rest_lawful (e ∷ es) fine)) (λ h. fine)

module _ (z : Sizes) (fine : Lawful z) (rows : List Row) (w : Word) (q : List Entry) (s : Sound z rows w q) (t : ℕ) (small : t < 64) (passing : phase_in rows t ≡ Passing) where
  -- the passing task is not in the queue
  t_absent : has_task t q ≡ false
  t_absent = task_entry t q (s.listed t Read ∙ ap (queued_to Read) passing) (s.listed t Write ∙ ap (queued_to Write) passing)

  -- the queue behind the tasks taken lists the tasks that are still queued
  listed_pass : (taken rest : List Entry) (d₀ : Direction) (rows' : List Row) → q ≡ taken ++ rest → ((x : ℕ) → has_task x taken ≡ true → phase_in rows' x ≡ Holding d₀) → phase_in rows' t ≡ Out
      → ((x : ℕ) → has_task x taken ≡ false → (x ≡ t → ⊥) → phase_in rows' x ≡ phase_in rows x) → (x : ℕ) (d : Direction) → has_entry x d rest ≡ queued_to d (phase_in rows' x)
  listed_pass taken rest d₀ rows' split held out left x d =
      let once : no_task_twice (taken ++ rest) ≡ true = ap no_task_twice (sym split) ∙ s.lawful.none_twice in
      let was : (has_entry x d taken || has_entry x d rest) ≡ queued_to d (phase_in rows x) = sym (entry_append x d taken rest) ∙ ap (has_entry x d) (sym split) ∙ s.listed x d in
      elim (cases_Bool (has_task x taken)) [
        | inl there ↦ no_entry x d rest (once_apart x taken rest once there) ∙ sym (ap (queued_to d) (held x there))
        | inr away ↦
            let none = no_entry x d taken away in
            let same : has_entry x d rest ≡ queued_to d (phase_in rows x) = (let a = was in grind (arith, nat_tests)) in
            elim (cases_eq x t) [
              | inl e ↦ same ∙ ap (λ k. queued_to d (phase_in rows k)) e ∙ ap (queued_to d) passing ∙ sym (ap (queued_to d) (ap (phase_in rows') e ∙ out))
              | inr ne ↦ same ∙ sym (ap (queued_to d) (left x away ne))
            ]
      ]

  module _ (r₁ : Row) (is_out : r₁.phase ≡ Out) where
    rows₁_out : phase_in (set rows t r₁) t ≡ Out
    rows₁_out = phase_here rows t r₁ (Change.within z fine rows w s.size s.wide s.agree t small r₁) ∙ is_out

    rows₁_there : (x : ℕ) → (x ≡ t → ⊥) → phase_in (set rows t r₁) x ≡ phase_in rows x
    rows₁_there x ne = phase_there rows t r₁ (Change.within z fine rows w s.size s.wide s.agree t small r₁) x ne

    stays₁ : (f : ℕ → Phase → Bool) → f t Passing ≡ f t Out → total f rows ≡ total f (set rows t r₁)
    stays₁ f same = Change.stays z fine rows w s.size s.wide s.agree t small r₁ f (ap (f t) passing ∙ same ∙ sym (ap (f t) is_out))

    owes₁ : total owing rows ≡ total owing (set rows t r₁) + 1
    owes₁ = Change.falls z fine rows w s.size s.wide s.agree t small r₁ owing (ap owes passing) (ap owes is_out)

    agree₁ : Counted z w (set rows t r₁)
    agree₁ = Change.agree_same z fine rows w s.size s.wide s.agree t small r₁ (ap (holds_to Read) passing ∙ sym (ap (holds_to Read) is_out))

    size₁ : length (set rows t r₁) ≡ 64
    size₁ = Change.size' z fine rows w s.size s.wide s.agree t small r₁

    core₁ : Core (total writes (set rows t r₁)) (total reads (set rows t r₁)) (total owing (set rows t r₁) + 1) w.locked w.writers_wait w.readers_wait
    core₁ = core_at (stays₁ writes refl) (stays₁ reads refl) owes₁ refl refl refl s.core

    -- readers at the front are all taken
    pub front_ready : (x : ℕ) → has_task x (front_readers q) ≡ true → (x < 64) × (phase_in (set rows t r₁) x ≡ Queued Read)
    front_ready x there =
        let split = front_behind q in
        let entry : has_entry x Read q ≡ true = (let a = all_entry 0 x (front_readers q) (front_reads q) there in let b = entry_append x Read (front_readers q) (behind_readers q) in let c : has_entry x Read (front_readers q ++ behind_readers q) ≡ true = grind (arith, nat_tests) in sym (ap (has_entry x Read) split) ∙ c) in
        let was : phase_in rows x ≡ Queued Read = queued_is Read (phase_in rows x) (sym (s.listed x Read) ∙ entry) in
        let apart : x ≡ t → ⊥ = λ e. true≢false (sym entry ∙ ap (λ k. has_entry k Read q) e ∙ s.listed t Read ∙ ap (queued_to Read) passing) in
        (range_task x q s.lawful.in_range (entry_task x Read q entry), rows₁_there x apart ∙ was)

    pub readers_in_lem : Admitted z (front_readers q) (set rows t r₁) (holding_rows (front_readers q) (set rows t r₁)) (pass_to_readers (has_writer (behind_readers q)) w) (admitted z (front_readers q) (pass_to_readers (has_writer (behind_readers q)) w))
    readers_in_lem =
        admit_all z fine (front_readers q) (set rows t r₁) (pass_to_readers (has_writer (behind_readers q)) w) size₁ s.wide agree₁ refl front_ready
        (once_front (front_readers q) (behind_readers q) (ap no_task_twice (front_behind q) ∙ s.lawful.none_twice)) (front_all (front_readers q) (front_reads q))

    pub sound_pass_read : (e : Entry) (es : List Entry) → q ≡ e ∷ es → is_reader e ≡ true → Sound z (holding_rows (front_readers q) (set rows t r₁)) (admitted z (front_readers q) (pass_to_readers (has_writer (behind_readers q)) w)) (behind_readers q)
    sound_pass_read e es is reads' =
        let a = readers_in_lem in
        let none : has_reader (behind_readers q) ≡ false = ap (λ l. has_reader (behind_readers l)) is ∙ behind_writes e es reads' (ap readers_are_neighbours (sym is) ∙ s.lawful.neighbours) in
        let some : 0 < length (front_readers q) = (let n : length (front_readers q) ≡ length (front_readers (e ∷ es)) = ap (λ l. length (front_readers l)) is in let m : 0 < length (front_readers (e ∷ es)) = cond_both (is_reader e) (e ∷ front_readers es) [] (λ l. 0 < length l) (λ h. omega arith) (λ h. absurd (true≢false (sym reads' ∙ h))) in omega arith) in
        let t-away : has_task t (front_readers q) ≡ false = (let b = has_task_append t (front_readers q) (behind_readers q) in let c : has_task t (front_readers q ++ behind_readers q) ≡ false = ap (has_task t) (front_behind q) ∙ t_absent in grind (arith, nat_tests)) in
        let marks : Core (total writes (set rows t r₁)) (total reads (set rows t r₁) + length (front_readers q)) (total owing (set rows t r₁)) false (has_writer (behind_readers q)) false = core_pass_read (length (front_readers q)) (has_writer (behind_readers q)) core₁ some in
        record {
          size = a.size;
          wide = a.wide;
          agree = a.agree;
          lawful = behind_lawful q s.lawful;
          listed = listed_pass (front_readers q) (behind_readers q) Read _ (sym (front_behind q)) a.taken (a.left t t-away ∙ rows₁_out) (λ x away ne. a.left x away ∙ rows₁_there x ne);
          writers = a.writers_stay;
          readers = a.readers_stay ∙ sym none;
          core = core_at (sym a.writing) (sym a.reading) (sym a.owed) (sym a.locked_stays) (sym a.writers_stay) (sym a.readers_stay) marks;
        }

    -- a writer at the front is taken alone
    pub writer_ready : (e : Entry) (es : List Entry) → q ≡ e ∷ es → is_reader e ≡ false → (e.task < 64) × (phase_in (set rows t r₁) e.task ≡ Queued Write)
    writer_ready e es is writes' =
        let self = eq-eqb e.task e.task refl in
        let entry : has_entry e.task Write q ≡ true = ap (has_entry e.task Write) is ∙ grind (arith, nat_tests) in
        let was : phase_in rows e.task ≡ Queued Write = queued_is Write (phase_in rows e.task) (sym (s.listed e.task Write) ∙ entry) in
        let apart : e.task ≡ t → ⊥ = λ k. true≢false (sym entry ∙ ap (λ k. has_entry k Write q) k ∙ s.listed t Write ∙ ap (queued_to Write) passing) in
        (range_task e.task q s.lawful.in_range (entry_task e.task Write q entry), rows₁_there e.task apart ∙ was)

    pub sound_pass_write : (e : Entry) (es : List Entry) (r₂ : Row) → q ≡ e ∷ es → is_reader e ≡ false → r₂.phase ≡ Holding Write → Sound z (set (set rows t r₁) e.task r₂) (pass_to_writer (has_writer es) (has_reader es) w) es
    sound_pass_write e es r₂ is writes' holds =
        let y = e.task in
        let ready = writer_ready e es is writes' in
        let rows₁ : List Row = set rows t r₁ in
        let w₂ : Word = marked true (has_writer es) (has_reader es) w in
        let nobody : total reads rows ≡ 0 = s.core.alone (let o = owes₁ in omega arith) in
        let can = none_zero z fine w rows s.wide s.agree nobody in
        let word-is : pass_to_writer (has_writer es) (has_reader es) w ≡ w₂ = cond-true (all_zero w.counts) w₂ w can in
        let within₂ : y < length rows₁ = (let n = size₁ in let m = ready.0 in omega arith) in
        let away : has_task t (e ∷ []) ≡ false = (let a : has_task t (e ∷ es) ≡ false = ap (has_task t) (sym is) ∙ t_absent in grind (arith, nat_tests)) in
        let only : (x : ℕ) → has_task x (e ∷ []) ≡ true → x ≡ y = λ x h. sym (eqb-true y x (let b = h in grind (arith, nat_tests))) in
        let apart : (x : ℕ) → has_task x (e ∷ []) ≡ false → x ≡ y → ⊥ = λ x h k. true≢false (sym (eq-eqb y x (sym k)) ∙ (or_parts (eqb y x) false h).0) in
        let result : Sound z (set rows₁ y r₂) w₂ es = record {
          size = Change.size' z fine rows₁ w size₁ s.wide agree₁ y ready.0 r₂;
          wide = s.wide;
          agree = Change.agree_same z fine rows₁ w size₁ s.wide agree₁ y ready.0 r₂ (ap (holds_to Read) ready.1 ∙ sym (ap (holds_to Read) holds));
          lawful = rest_lawful (e ∷ es) (subst LawfulQueue is s.lawful);
          listed = listed_pass (e ∷ []) es Write (set rows₁ y r₂) is
              (λ x h. ap (phase_in (set rows₁ y r₂)) (only x h) ∙ phase_here rows₁ y r₂ within₂ ∙ holds)
              (phase_there rows₁ y r₂ within₂ t (apart t away) ∙ rows₁_out)
              (λ x h ne. phase_there rows₁ y r₂ within₂ x (apart x h) ∙ rows₁_there x ne);
          writers = refl;
          readers = refl;
          core = core_at (Change.rises z fine rows₁ w size₁ s.wide agree₁ y ready.0 r₂ writes (ap (holds_to Write) ready.1) (ap (holds_to Write) holds))
              (Change.stays z fine rows₁ w size₁ s.wide agree₁ y ready.0 r₂ reads (ap (holds_to Read) ready.1 ∙ sym (ap (holds_to Read) holds)))
              (Change.stays z fine rows₁ w size₁ s.wide agree₁ y ready.0 r₂ owing (ap owes ready.1 ∙ sym (ap owes holds)))
              refl refl refl (core_pass_write (has_writer es) (has_reader es) core₁);
        } in
        subst (λ v. Sound z (set rows₁ y r₂) v es) (sym word-is) result
