-- Every run keeps the laws. Assumes nothing.
use Rattle.std.proofs.Common.{◌≡◌, ℕ, ◌<◌, ◌≤◌, Bool, true, false, ◌||◌, ◌⊎◌, List, [], ◌∷◌, ◌++◌, length, sym, refl, ap, ◌∙◌, subst, inl, inr, arith}
use Rattle.std.proofs.lemmas.List.{append_assoc, append-nil, get_or_past}
use Rattle.std.proofs.lemmas.Bool.{cases_lt, or_cases, or_parts, or_left, or_right, true≢false}
use Rattle.std.proofs.lemmas.Bool.Decides.{nat_tests}
use Rattle.types.specs.declared.Direction.{Direction}
use Rattle.types.specs.declared.Direction.TheVariants.{Read, Write}
use Rattle.types.specs.declared.Entry.{Entry}
use Rattle.word.specs.Words.{Sizes}
use Rattle.queue.specs.Queues.{has_reader}
use Rattle.rules.specs.declared.Phase.{Phase}
use Rattle.rules.specs.declared.Phase.TheVariants.{Out, Queued, Holding}
use Rattle.rules.specs.Locks.{Lock, fresh_lock, out_row, phase_of}
use Rattle.rules.specs.Steps.{after, has_writer}
use Rattle.rules.specs.Runs.{Lawful, Call, Event, seen_of, answer_to, events, lock_after, Holds, IsQueued, IsOwing, LastClaim, HoldsTo, WaitsSince, turns_seen, patience, RunLaws, MadeLocksAreSafe}
use Rattle.rules.proofs.Tally.{tally_has, tally_some, tally_only}
use Rattle.rules.proofs.Rows.{holds_to, queued_to, total, reads, writes, owing, phase_fresh}
use Rattle.rules.proofs.Entries.{has_entry}
use Rattle.rules.proofs.Sound.{Sound, sound_fresh}
use Rattle.rules.proofs.Went.{Agrees, Patient}
use Rattle.rules.proofs.Agree.{agrees_fresh, agrees_step, holding_law, queued_law, owing_law}
use Rattle.rules.proofs.Overtake.{patient_fresh, patient_step}
use Rattle.rules.proofs.Step.{step_kept}

record Inv (z : Sizes) (es : List Event) (l : Lock) : Type 0 where
  pub sound : Sound z l.rows l.word l.queue
  pub few : l.tasks ≤ 64
  pub agrees : (x : ℕ) → Agrees x es (phase_of x l)
  pub patient : Patient es l

event_of : Sizes → Call → Lock → Event
event_of z c l = record { verb = c.verb; task = c.task; seen = seen_of (answer_to z c l) }

-- whoever is not out is one of 64
below_64 : (l : Lock) (x : ℕ) → length l.rows ≡ 64 → (phase_of x l ≡ Out → ⊥) → x < 64
below_64 l x size busy =
    elim (cases_lt x 64) [
      | inl h ↦ h
      | inr h ↦ absurd (busy (ap (λ r. r.phase) (get_or_past l.rows x out_row (omega arith))))
    ]

entry_marks : (x : ℕ) (d : Direction) (q : List Entry) → has_entry x d q ≡ true → (has_writer q || has_reader q) ≡ true
entry_marks x d [] h = absurd (true≢false (sym h))
entry_marks x d (e ∷ es) h = let ih = entry_marks x d es in grind (arith, nat_tests)

module _ (z : Sizes) (fine : Lawful z) where
  inv_step : (es : List Event) (l : Lock) (c : Call) → Inv z es l → Inv z (es ++ (event_of z c l ∷ [])) (after l (answer_to z c l))
  unfolding event_of
  inv_step es l c inv =
      let kept = step_kept z fine l inv.sound inv.few c in
      let s = seen_of (answer_to z c l) in
      let l' = after l (answer_to z c l) in
      record {
        sound = kept.sound;
        few = (let e = kept.tasks in let h = inv.few in omega arith);
        agrees = agrees_step c.task c.verb s l l' es kept.went inv.sound.listed inv.agrees;
        patient = patient_step c.task c.verb s l l' es kept.went inv.sound.listed inv.sound.lawful (λ x h. (inv.agrees x).waits.1 h) inv.patient;
      }

  inv_run : (cs : List Call) (es : List Event) (l : Lock) → Inv z es l → Inv z (es ++ events z l cs) (lock_after z l cs)
  unfolding event_of
  inv_run [] es l inv = subst (λ k. Inv z k l) (sym (append-nil es)) inv
  inv_run (c ∷ cs) es l inv =
      let l' = after l (answer_to z c l) in
      subst (λ k. Inv z k (lock_after z l' cs)) (append_assoc es (event_of z c l ∷ []) (events z l' cs)) (inv_run cs (es ++ (event_of z c l ∷ [])) l' (inv_step es l c inv))

  module _ (es : List Event) (l : Lock) (inv : Inv z es l) where
    waits_queued : (q i : ℕ) → WaitsSince q i es → IsQueued q es
    waits_queued q i (h, there, none) = (i, (h, there, λ k lt within. (or_parts _ _ (none k lt within)).1))

    writes_now : (x : ℕ) → HoldsTo Write x es → phase_of x l ≡ Holding Write
    writes_now x h = (holding_law x es (phase_of x l) (inv.agrees x) Write).1 h

    one_below : (x : ℕ) (f : Phase → Bool) → f Out ≡ false → f (phase_of x l) ≡ true → x < 64
    one_below x f off on = below_64 l x inv.sound.size (λ out. true≢false (sym on ∙ ap f out ∙ off))

    alone : (x y : ℕ) → HoldsTo Write x es → Holds y es → y ≡ x
    alone x y wx hy =
        let c = inv.sound.core in
        let px : holds_to Write (phase_of x l) ≡ true = ap (holds_to Write) (writes_now x wx) in
        let lx = one_below x (holds_to Write) refl px in
        let one = tally_has (λ k. writes k (phase_of k l)) 64 x lx px in
        let most = c.one in
        elim (or_cases (holds_to Read (phase_of y l)) (holds_to Write (phase_of y l)) ((inv.agrees y).holds.1 hy)) [
          | inl r ↦
              let some = tally_has (λ k. reads k (phase_of k l)) 64 y (one_below y (holds_to Read) refl r) r in
              let none = c.alone (omega arith) in
              absurd (omega arith)
          | inr w ↦ tally_only (λ k. writes k (phase_of k l)) 64 x y (omega arith) lx (one_below y (holds_to Write) refl w) px w
        ]

    in_queue : (x : ℕ) → IsQueued x es → (d : Direction) × (has_entry x d l.queue ≡ true)
    in_queue x h =
        elim (or_cases (queued_to Read (phase_of x l)) (queued_to Write (phase_of x l)) ((inv.agrees x).waits.1 h)) [
          | inl r ↦ (Read, inv.sound.listed x Read ∙ r)
          | inr w ↦ (Write, inv.sound.listed x Write ∙ w)
        ]

    wakes : (x : ℕ) → IsQueued x es → (y : ℕ) × (Holds y es ⊎ IsOwing y es)
    wakes x h =
        let c = inv.sound.core in
        let entry = in_queue x h in
        let marks = entry_marks x entry.0 l.queue entry.1 in
        let ww = inv.sound.writers in
        let rw' = inv.sound.readers in
        let some = c.wake (grind (arith, nat_tests)) in
        elim (cases_lt 0 (total writes l.rows)) [
          | inl w ↦
              let who = tally_some (λ k. writes k (phase_of k l)) 64 w in
              (who.0, inl ((inv.agrees who.0).holds.0 (or_right (holds_to Read (phase_of who.0 l)) (holds_to Write (phase_of who.0 l)) who.2)))
          | inr now ↦
              elim (cases_lt 0 (total reads l.rows)) [
                | inl r ↦
                    let who = tally_some (λ k. reads k (phase_of k l)) 64 r in
                    (who.0, inl ((inv.agrees who.0).holds.0 (or_left (holds_to Read (phase_of who.0 l)) (holds_to Write (phase_of who.0 l)) who.2)))
                | inr nor ↦
                    let who = tally_some (λ k. owing k (phase_of k l)) 64 (omega arith) in
                    (who.0, inr ((inv.agrees who.0).owed.0 who.2))
              ]
        ]

    overtaken : (q x i : ℕ) (d : Direction) → (x ≡ q → ⊥) → WaitsSince q i es → LastClaim q d es → turns_seen x i es ≤ patience d
    overtaken q x i d apart waits claim =
        let is : phase_of q l ≡ Queued d = (queued_law q es (phase_of q l) (inv.agrees q) d).1 (waits_queued q i waits, claim) in
        let entry : has_entry q d l.queue ≡ true = inv.sound.listed q d ∙ ap (queued_to d) is ∙ same d in
        let bound = inv.patient q x i d apart waits entry in
        omega arith
      where
        same : (d : Direction) → queued_to d (Queued d) ≡ true
        same Read = refl
        same Write = refl

    laws : RunLaws es l
    laws = record {
      exclusion = alone;
      wake_up = wakes;
      overtaking = overtaken;
      holding = λ x. holding_law x es (phase_of x l) (inv.agrees x);
      queued = λ x. queued_law x es (phase_of x l) (inv.agrees x);
      owing = λ x. owing_law x es (phase_of x l) (inv.agrees x);
    }

  inv_fresh : (tasks spin : ℕ) → tasks ≤ 64 → Inv z [] (fresh_lock z tasks spin)
  inv_fresh tasks spin few = record {
    sound = sound_fresh z;
    few = few;
    agrees = λ x. subst (Agrees x []) (sym (phase_fresh 64 x)) (agrees_fresh x);
    patient = patient_fresh (fresh_lock z tasks spin);
  }

  -- every run from a fresh lock of at most 64 tasks keeps the laws
  pub runs_are_safe_lem : MadeLocksAreSafe z
  runs_are_safe_lem tasks spin few cs =
      laws (events z (fresh_lock z tasks spin) cs) (lock_after z (fresh_lock z tasks spin) cs) (inv_run cs [] (fresh_lock z tasks spin) (inv_fresh tasks spin few))
