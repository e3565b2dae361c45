-- A queued task sees no more turns of another than its patience allows: every call keeps that. Assumes nothing.
use Rattle.std.proofs.Common.{◌≡◌, ℕ, ◌+◌, ◌≤◌, true, false, not, ◌&&◌, ◌||◌, eqb, List, [], ◌∷◌, ◌++◌, Option, sym, refl, ap, ◌∙◌, inl, inr, arith}
use Rattle.std.proofs.lemmas.Bool.{cases_eq, cond_both}
use Rattle.std.proofs.lemmas.Bool.Decides.{nat_tests}
use Rattle.types.specs.Numbers.{outcome_number}
use Rattle.types.specs.declared.Direction.{Direction}
use Rattle.types.specs.declared.Direction.TheVariants.{Read, Write}
use Rattle.types.specs.declared.Entry.{Entry}
use Rattle.types.specs.declared.Verb.{Verb}
use Rattle.queue.specs.Queues.{is_reader, has_reader, has_task, no_task_twice, behind_last_reader, placed}
use Rattle.queue.proofs.Laws.{Lawful as LawfulQueue}
use Rattle.queue.proofs.Places.{has_reader_append, has_task_append}
use Rattle.rules.specs.Locks.{Lock, phase_of}
use Rattle.rules.specs.Runs.{Seen, Event, came, takes, gives, IsQueued, turns_seen, patience}
use Rattle.rules.proofs.Tally.{bit}
use Rattle.rules.proofs.Rows.{is_same_way, queued_to}
use Rattle.rules.proofs.Entries.{has_entry, entry_append, entry_task, placed_entry}
use Rattle.rules.proofs.History.{last_was, turns_more, turns_none}
use Rattle.rules.proofs.Went.{Went, nowhere, onward, queues, passes, Listed, all_to, Front, before, ahead, Patient}

ahead_patience : (q x : ℕ) (d : Direction) (es : List Entry) → ahead q x d es ≤ patience d
ahead_patience q x Read es = grind (arith, nat_tests)
ahead_patience q x Write es = grind (arith, nat_tests)

before_task : (q x : ℕ) (d : Direction) (es : List Entry) → has_entry x d (before q es) ≡ true → has_task x es ≡ true
before_task q x d [] h = h
before_task q x d (e ∷ es) h = let ih = before_task q x d es in grind (arith, nat_tests)

before_reader : (q : ℕ) (es : List Entry) → has_reader es ≡ false → has_reader (before q es) ≡ false
before_reader q [] h = refl
before_reader q (e ∷ es) h = let ih = before_reader q es in grind (arith, nat_tests)

before_append : (q : ℕ) (xs ys : List Entry) → has_task q xs ≡ false → before q (xs ++ ys) ≡ xs ++ before q ys
before_append q [] ys absent = refl
before_append q (e ∷ xs) ys absent = let ih = before_append q xs ys in grind (arith, nat_tests)

-- Task t joins, and q is another that is queued.
module _ (t q : ℕ) (other : eqb t q ≡ false) where
  -- a writer goes behind every task
  before_end : (es : List Entry) → has_task q es ≡ true → before q (placed t Write es) ≡ before q es
  before_end [] there = grind (arith, nat_tests)
  before_end (e ∷ es) there = let ih = before_end es in grind (arith, nat_tests)

  -- and a reader goes ahead of a task only where a reader stands already
  before_placed : (x : ℕ) (d : Direction) (es : List Entry) → has_task q es ≡ true → (has_entry x Write (before q (placed t d es)) ≡ has_entry x Write (before q es)) × (has_reader (before q (placed t d es)) ≡ has_reader (before q es))
  before_placed x Write es there = let same = before_end es there in (ap (has_entry x Write) same, ap has_reader same)
  before_placed x Read [] there = grind (arith, nat_tests)
  before_placed x Read (e ∷ es) there =
      let ih = before_placed x Read es in
      let new : Entry = record { task = t; direction = Read } in
      cond_both (is_reader e && not (has_reader es)) (e ∷ new ∷ es) (e ∷ behind_last_reader new es)
      (λ l. (has_entry x Write (before q l) ≡ has_entry x Write (before q (e ∷ es))) × (has_reader (before q l) ≡ has_reader (before q (e ∷ es))))
      (λ last. grind (arith, nat_tests)) (λ last. grind (arith, nat_tests))

  ahead_placed : (x : ℕ) (d d' : Direction) (es : List Entry) → has_task q es ≡ true → ahead q x d (placed t d' es) ≡ ahead q x d es
  ahead_placed x Read d' es there = let same = before_placed x d' es there in ap bit same.0
  ahead_placed x Write d' es there = let same = before_placed x d' es there in grind (arith, nat_tests)

-- where no task is twice, one of the second part is not in the first
once : (q : ℕ) (xs ys : List Entry) → no_task_twice (xs ++ ys) ≡ true → has_task q ys ≡ true → has_task q xs ≡ false
once q [] ys fine there = refl
once q (e ∷ xs) ys fine there =
    let ih = once q xs ys in
    let joined = has_task_append e.task xs ys in
    let same : e.task ≡ q → has_task e.task ys ≡ true = λ eq. ap (λ x. has_task x ys) eq ∙ there in
    grind (arith, nat_tests)

all_entry : (x : ℕ) (d : Direction) (es : List Entry) → all_to d es ≡ true → has_task x es ≡ true → has_entry x d es ≡ true
all_entry x d [] all there = there
all_entry x d (e ∷ es) all there = let ih = all_entry x d es in grind (arith, nat_tests)

reader_way : (t : ℕ) (d : Direction) → is_same_way Read d ≡ is_reader (record { task = t; direction = d })
reader_way t Read = refl
reader_way t Write = refl

entry_reader : (x : ℕ) (es : List Entry) → has_entry x Read es ≡ true → has_reader es ≡ true
entry_reader x [] there = there
entry_reader x (e ∷ es) there =
    let ih = entry_reader x es in
    let way = reader_way e.task e.direction in
    grind (arith, nat_tests)

-- A pass takes the front of the queue, which stands ahead of every task of the rest.
module _ (q x : ℕ) (taken rest : List Entry) (fine : no_task_twice (taken ++ rest) ≡ true) where
  before_front : has_task q rest ≡ true → before q (taken ++ rest) ≡ taken ++ before q rest
  before_front there = before_append q taken rest (once q taken rest fine there)

  front_writers : has_task q rest ≡ true → has_entry x Write (before q (taken ++ rest)) ≡ (has_entry x Write taken || has_entry x Write (before q rest))
  front_writers there = ap (has_entry x Write) (before_front there) ∙ entry_append x Write taken (before q rest)

  front_readers_lem : has_task q rest ≡ true → has_reader (before q (taken ++ rest)) ≡ (has_reader taken || has_reader (before q rest))
  front_readers_lem there = ap has_reader (before_front there) ∙ has_reader_append taken (before q rest)

  -- a writer that is taken stands ahead no more, since no task is in the queue twice
  passed_writers : has_task q rest ≡ true → all_to Write taken ≡ true → bit (has_task x taken) + bit (has_entry x Write (before q rest)) ≤ bit (has_entry x Write (before q (taken ++ rest)))
  passed_writers there all =
      let writers = front_writers there in
      let given = all_entry x Write taken all in
      let absent = once x taken rest fine in
      let left = before_task q x Write rest in
      grind (arith, nat_tests)

  -- what x is given is no longer ahead of q: with the readers, none is left, and so q is a writer
  ahead_passed : (d d' : Direction) → all_to d' taken ≡ true → Front d' taken rest → has_entry q d rest ≡ true → bit (has_task x taken) + ahead q x d rest ≤ ahead q x d (taken ++ rest)
  ahead_passed Read Read all front there = let reads = entry_reader q rest there in grind (arith, nat_tests)
  ahead_passed Write Read all front there =
      let present = entry_task q Write rest there in
      let writers = front_writers present in
      let readers = front_readers_lem present in
      let none = before_reader q rest front in
      let given = all_entry x Read taken all in
      let reads = entry_reader x taken in
      grind (arith, nat_tests)
  ahead_passed Read Write all front there = passed_writers (entry_task q Read rest there) all
  ahead_passed Write Write all front there =
      let present = entry_task q Write rest there in
      let writers = passed_writers present all in
      let readers = front_readers_lem present in
      grind (arith, nat_tests)

abbrev event : ℕ → Verb → Option Seen → Event
event t verb s = record { verb = verb; task = t; seen = s }

module _ (t : ℕ) (verb : Verb) (s : Option Seen) (l l' : Lock) (q x : ℕ) (d : Direction) where
  -- q was queued before, and what x is given and may still be given ahead of q is no more than it was.
  abbrev Nearer : Type 0
  Nearer = (has_entry q d l.queue ≡ true) × (bit (gives x (event t verb s)) + ahead q x d l'.queue ≤ ahead q x d l.queue)

  stays : l'.queue ≡ l.queue → gives x (event t verb s) ≡ false → has_entry q d l'.queue ≡ true → Nearer
  stays same none there =
      let still = ap (ahead q x d) same in
      (sym (ap (has_entry q d) same) ∙ there, grind (arith, nat_tests))

  -- a task that stays queued comes nearer, unless this call is the one that queues it
  ahead_step : Went t verb s l l' → LawfulQueue l.queue → (came q 6 (event t verb s) || takes q (event t verb s)) ≡ false → has_entry q d l'.queue ≡ true → Nearer
  ahead_step (nowhere none same) lawful quiet there =
      let given = ap (λ s. gives x (event t verb s)) none in
      stays (ap (λ m. m.queue) same) (grind (arith, nat_tests)) there
  ahead_step (onward o p seen goes moved same empty) lawful quiet there =
      let given = ap (λ s. gives x (event t verb s)) seen in
      elim (cases_eq (outcome_number o) 1) [
        | inl one ↦ let nobody : has_entry q d [] ≡ true = sym (ap (has_entry q d) (same ∙ empty one)) ∙ there in grind (arith, nat_tests)
        | inr ne ↦ stays same (grind (arith, nat_tests)) there
      ]
  ahead_step (queues a d' seen phase moved same) lawful quiet there =
      let given = ap (λ s. gives x (event t verb s)) seen in
      let joins = ap (λ s. came q 6 (event t verb s)) seen in
      let other : eqb t q ≡ false = grind (arith, nat_tests) in
      let entry = ap (has_entry q d) same ∙ placed_entry t d' l.queue q d in
      let was : has_entry q d l.queue ≡ true = grind (arith, nat_tests) in
      let still = ap (ahead q x d) same ∙ ahead_placed t q other x d d' l.queue (entry_task q d l.queue was) in
      (was, grind (arith, nat_tests))
  ahead_step (passes taken d' seen phase handed split all front) lawful quiet there =
      let given = ap (λ s. gives x (event t verb s)) seen in
      let entry = ap (has_entry q d) split ∙ entry_append q d taken l'.queue in
      let fine = sym (ap no_task_twice split) ∙ lawful.none_twice in
      let less = ahead_passed q x taken l'.queue fine d d' all front there in
      let same = ap (ahead q x d) split in
      grind (arith, nat_tests)

pub patient_fresh : (l : Lock) → Patient [] l
patient_fresh l q x i d ne (within, there, none) queued = absurd (omega arith)

pub patient_step : (t : ℕ) (verb : Verb) (s : Option Seen) (l l' : Lock) (es : List Event) → Went t verb s l l' → Listed l → LawfulQueue l.queue → ((x : ℕ) → IsQueued x es → (queued_to Read (phase_of x l) || queued_to Write (phase_of x l)) ≡ true) → Patient es l → Patient (es ++ (record { verb = verb; task = t; seen = s } ∷ [])) l'
patient_step t verb s l l' es went _ lawful _ patient q x i d ne waits there =
    elim (last_was es (event t verb s) (came q 6) (λ e. came q 6 e || takes q e) i waits) [
      | inl (here, joins) ↦
          let none : turns_seen x i (es ++ (event t verb s ∷ [])) ≡ 0 = rw here (turns_none es (event t verb s) x) in
          let most = ahead_patience q x d l'.queue in
          omega arith
      | inr (old, quiet) ↦
          let more = turns_more es (event t verb s) x i old.0 in
          let less = ahead_step t verb s l l' q x d went lawful quiet there in
          let was = patient q x i d ne old less.0 in
          omega arith
    ]
