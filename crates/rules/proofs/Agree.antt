-- A task's phase agrees with what the events tell of it, after every event of a run. Assumes nothing.
use Rattle.std.proofs.Common.{◌≡◌, ℕ, Bool, true, false, not, ◌&&◌, ◌||◌, eqb, List, [], ◌∷◌, ◌++◌, length, Some, Option, sym, refl, ap, ◌∙◌, inl, inr, arith}
use Rattle.std.proofs.lemmas.Bool.{cases_eq, cases_Bool, cases_order, eq-eqb, ne_eqb, or_cases}
use Rattle.std.proofs.lemmas.Bool.Decides.{nat_tests}
use Rattle.types.specs.Numbers.{outcome_number}
use Rattle.types.specs.declared.Direction.{Direction}
use Rattle.types.specs.declared.Direction.TheVariants.{Read, Write}
use Rattle.types.specs.declared.Entry.{Entry}
use Rattle.types.specs.declared.Verb.{Verb}
use Rattle.types.specs.declared.Verb.TheVariants.{ClaimRead, ClaimWrite, Move, Leave}
use Rattle.types.specs.declared.Outcome.{Outcome}
use Rattle.types.specs.declared.Outcome.TheVariants.{Queued as QueuedUp, Passed}
use Rattle.queue.specs.Queues.{has_task}
use Rattle.rules.specs.declared.Phase.{Phase}
use Rattle.rules.specs.declared.Phase.TheVariants.{Out, Claiming, AtQueueLock, Queueing, Queued, Holding, Owing, Passing}
use Rattle.rules.specs.Locks.{Lock, phase_of}
use Rattle.rules.specs.Runs.{Seen, Event, came, takes, gives, claims_to, claims, at, Since, Holds, IsQueued, IsOwing, LastClaim, HoldsTo, QueuedTo, OwesNow}
use Rattle.rules.proofs.Rows.{is_same_way, holds_to, queued_to, owes}
use Rattle.rules.proofs.Entries.{has_entry, entry_append}
use Rattle.rules.proofs.History.{since_keep, since_begin, since_was}
use Rattle.rules.proofs.Went.{Onward, Moved, all_to, plainly, Went, Listed, directed, Exactly, Agrees}

abbrev holding : Phase → Bool
holding p = holds_to Read p || holds_to Write p

abbrev waiting : Phase → Bool
waiting p = queued_to Read p || queued_to Write p

module _ (es : List Event) (e : Event) (p q : Event → Bool) where
  -- a test that tells whether `Since p q` holds, one event later
  since_next : (b b' : Bool) → b' ≡ (p e || (not (q e) && b)) → Exactly b (Since p q es) → Exactly b' (Since p q (es ++ (e ∷ [])))
  since_next b b' is (to, from) = (
    λ h. elim (cases_Bool (p e)) [
      | inl now' ↦ since_begin es e p q now'
      | inr none ↦ since_keep es e p q (to (grind (arith, nat_tests))) (grind (arith, nat_tests))
    ],
    λ h. elim (since_was es e p q h) [
      | inl now' ↦ grind (arith, nat_tests)
      | inr (old, quiet) ↦ let was = from old in grind (arith, nat_tests)
    ],
  )

-- the last claim, one event later: a new claim in direction d, or no claim at all after one in it
claim_next : (es : List Event) (e : Event) (x : ℕ) (d : Direction) (before : Bool) → ((came x 0 e && claims_to d e.verb) || (not (came x 0 e) && before)) ≡ true → (before ≡ true → LastClaim x d es) → LastClaim x d (es ++ (e ∷ []))
claim_next es e x d before why old =
    elim (cases_Bool (came x 0 e)) [
      | inl now' ↦ since_begin es e (claims x d) (came x 0) (grind (arith, nat_tests))
      | inr none ↦ since_keep es e (claims x d) (came x 0) (old (grind (arith, nat_tests))) none
    ]

-- The phase after an event, as to holding, waiting, owing and the direction, by the phase before and the tests of the event:
-- `own n` tells that it is the task's, with outcome n, and `took` that it takes the task.
abbrev Next : (ℕ → Bool) → Bool → Verb → Phase → Phase → Type 0
Next own took verb p p' =
    (holding p' ≡ ((own 1 || took) || (not (own 7 || own 8) && holding p)))
    × (waiting p' ≡ (own 6 || (not took && waiting p)))
    × (owes p' ≡ (own 8 || (not (own 9) && owes p)))
    × ((d : Direction) → directed d p' ≡ true → ((own 0 && claims_to d verb) || (not (own 0) && directed d p)) ≡ true)

-- a phase that agrees with the events and goes on so agrees with one event more
follow : (x : ℕ) (es : List Event) (e : Event) (own : ℕ → Bool) (took : Bool) (p p' : Phase) → ((n : ℕ) → came x n e ≡ own n) → takes x e ≡ took → Next own took e.verb p p' → Agrees x es p → Agrees x (es ++ (e ∷ [])) p'
follow x es e own took p p' same taken (holds, waits, owed, claim) old = record {
  holds = since_next es e (gives x) (λ f. came x 7 f || came x 8 f) (holding p) (holding p') (rw (same 1, same 7, same 8, taken) holds) old.holds;
  waits = since_next es e (came x 6) (takes x) (waiting p) (waiting p') (rw (same 6, taken) waits) old.waits;
  owed = since_next es e (came x 8) (came x 9) (owes p) (owes p') (rw (same 8, same 9) owed) old.owed;
  claim = λ d h. claim_next es e x d (directed d p) (rw (same 0) (claim d h)) (old.claim d);
}

either_way : (d : Direction) → (is_same_way Read d || is_same_way Write d) ≡ true
either_way Read = refl
either_way Write = refl

way_itself : (d : Direction) → is_same_way d d ≡ true
way_itself Read = refl
way_itself Write = refl

same_way : (d d' : Direction) → is_same_way d d' ≡ true → d ≡ d'
same_way Read Read h = refl
same_way Read Write h = grind arith
same_way Write Read h = grind arith
same_way Write Write h = refl

-- the steps of a task's phase, by what was seen
module _ (verb : Verb) where
  -- an event that does not concern the task
  still : (p : Phase) → Next (λ n. false) false verb p p
  still p = (refl, refl, refl, λ d h. h)

  -- the task is taken
  given : (d : Direction) → Next (λ n. false) true verb (Queued d) (Holding d)
  given d = (either_way d, refl, refl, λ d' h. h)

  queued : (d : Direction) → Next (eqb 6) false verb (Queueing d) (Queued d)
  queued d = (refl, either_way d, refl, λ d' h. h)

  passed : Next (eqb 9) false verb Passing Out
  passed = (refl, refl, refl, λ d h. h)

  went_on : (o : Outcome) (p p' : Phase) → Onward verb o p p' → Next (eqb (outcome_number o)) false verb p p'
  went_on o p p' (Onward.claims d to) = (refl, refl, refl, λ d' h. rw (same_way d' d h, to) refl)
  went_on o p p' (Onward.granted_at_once a d) = (either_way d, refl, refl, λ d' h. h)
  went_on o p p' (Onward.granted_late a d) = (either_way d, refl, refl, λ d' h. h)
  went_on o p p' (Onward.goes_again a d) = (refl, refl, refl, λ d' h. h)
  went_on o p p' (Onward.goes_to_lock a d) = (refl, refl, refl, λ d' h. h)
  went_on o p p' (Onward.locks_to_queue d) = (refl, refl, refl, λ d' h. h)
  went_on o p p' Onward.locks_to_pass = (refl, refl, refl, λ d' h. h)
  went_on o p p' (Onward.busy_to_queue d) = (refl, refl, refl, λ d' h. h)
  went_on o p p' Onward.busy_to_pass = (refl, refl, refl, λ d' h. h)
  went_on o p p' (Onward.leaves d) = (refl, refl, refl, λ d' h. grind arith)
  went_on o p p' (Onward.comes_to_owe d) = (refl, refl, refl, λ d' h. grind arith)

none_yet : (p q : Event → Bool) → Exactly false (Since p q [])
none_yet p q = (λ h. grind arith, λ (i, (within, there, none)). absurd (omega arith))

pub agrees_fresh : (x : ℕ) → Agrees x [] Out
agrees_fresh x = record {
  holds = none_yet (gives x) (λ e. came x 7 e || came x 8 e);
  waits = none_yet (came x 6) (takes x);
  owed = none_yet (came x 8) (came x 9);
  claim = λ d h. grind arith;
}

queued_phase : (d : Direction) (p : Phase) → queued_to d p ≡ true → p ≡ Queued d
queued_phase d Out h = grind arith
queued_phase d (Claiming d') h = grind arith
queued_phase d (AtQueueLock d') h = grind arith
queued_phase d (Queueing d') h = grind arith
queued_phase d (Queued d') h = ap Queued (sym (same_way d d' h))
queued_phase d (Holding d') h = grind arith
queued_phase d Owing h = grind arith
queued_phase d Passing h = grind arith

taken_to : (x : ℕ) (d : Direction) (taken : List Entry) → all_to d taken ≡ true → has_task x taken ≡ true → has_entry x d taken ≡ true
taken_to x d [] all h = h
taken_to x d (e ∷ es) all h = let ih = taken_to x d es in grind (arith, nat_tests)

-- a task that is taken in direction d was queued in it
was_queued : (x : ℕ) (d : Direction) (taken rest : List Entry) (l : Lock) → Listed l → l.queue ≡ taken ++ rest → all_to d taken ≡ true → has_task x taken ≡ true → phase_of x l ≡ Queued d
was_queued x d taken rest l listed is all h =
    let there = taken_to x d taken all h in
    let split = entry_append x d taken rest in
    let whole = ap (has_entry x d) is in
    let known = listed x d in
    queued_phase d (phase_of x l) (grind (arith, nat_tests))

module _ (t : ℕ) (verb : Verb) (s : Option Seen) (l l' : Lock) (es : List Event) (x : ℕ) (old : Agrees x es (phase_of x l)) where
  abbrev event : Event
  event = record { verb = verb; task = t; seen = s }

  -- the event is not the task's
  beside : (took : Bool) (p p' : Phase) → phase_of x l ≡ p → phase_of x l' ≡ p' → ((n : ℕ) → came x n event ≡ false) → takes x event ≡ took → Next (λ n. false) took verb p p' → Agrees x (es ++ (event ∷ [])) (phase_of x l')
  beside took p p' from to none taken next = rw to (follow x es event (λ n. false) took p p' none taken next (rw from at old))

  untouched : phase_of x l' ≡ phase_of x l → ((n : ℕ) → came x n event ≡ false) → takes x event ≡ false → Agrees x (es ++ (event ∷ [])) (phase_of x l')
  untouched to none taken = beside false (phase_of x l) (phase_of x l) refl to none taken (still verb (phase_of x l))

  -- the event is the task's, and does not take it
  own : (o : Outcome) (taken : List Entry) (p p' : Phase) → phase_of x l ≡ p → phase_of x l' ≡ p' → x ≡ t → s ≡ Some (record { outcome = o; taken = taken }) → has_task x taken ≡ false → Next (eqb (outcome_number o)) false verb p p' → Agrees x (es ++ (event ∷ [])) (phase_of x l')
  own o taken p p' from to here is none next =
      let mine = eq-eqb t x (sym here) in
      rw to (follow x es event (eqb (outcome_number o)) false p p' (λ n. rw (mine, is) refl) (rw is (grind (arith, nat_tests))) next (rw from at old))

  -- a step of t that moves no other task
  moves : (o : Outcome) (p p' : Phase) → s ≡ plainly o → phase_of t l ≡ p → Moved t p' l l' → Next (eqb (outcome_number o)) false verb p p' → Agrees x (es ++ (event ∷ [])) (phase_of x l')
  moves o p p' is from moved next =
      let after = moved x in
      elim (cases_eq x t) [
        | inl here ↦ own o [] p p' (ap (λ y. phase_of y l) here ∙ from) (let mine = eq-eqb x t here in cc) here is refl next
        | inr ne ↦ untouched (let apart = ne_eqb x t ne in cc) (λ n. grind (arith, nat_tests)) (rw is (grind (arith, nat_tests)))
      ]

pub agrees_step : (t : ℕ) (verb : Verb) (s : Option Seen) (l l' : Lock) (es : List Event) → Went t verb s l l' → Listed l → ((x : ℕ) → Agrees x es (phase_of x l)) → (x : ℕ) → Agrees x (es ++ (record { verb = verb; task = t; seen = s } ∷ [])) (phase_of x l')
agrees_step t verb s l l' es (Went.nowhere is same) listed old x =
    untouched t verb s l l' es x (old x) (ap (phase_of x) same) (λ n. rw is (grind (arith, nat_tests))) (rw is refl)
agrees_step t verb s l l' es (Went.onward o p' is on moved queue first) listed old x =
    moves t verb s l l' es x (old x) o (phase_of t l) p' is refl moved (went_on verb o (phase_of t l) p' on)
agrees_step t verb s l l' es (Went.queues a d is from moved queue) listed old x =
    moves t verb s l l' es x (old x) (QueuedUp a) (Queueing d) (Queued d) is from moved (queued verb d)
agrees_step t verb s l l' es (Went.passes taken d is from handed queue all front) listed old x =
    let after = handed x in
    elim (cases_Bool (has_task x taken)) [
      | inl h ↦
          -- t is passing, so x is another
          let was = was_queued x d taken l'.queue l listed queue all h in
          let apart : x ≡ t → ⊥ = λ e. (let z : ◌≡◌ {A = ℕ} 0 1 = cc in omega arith) in
          beside t verb s l l' es x (old x) true (Queued d) (Holding d) was (cc) (λ n. grind (arith, nat_tests)) (rw (is, h) refl) (given verb d)
      | inr none ↦
          elim (cases_eq x t) [
            | inl here ↦ own t verb s l l' es x (old x) (Passed (length taken)) taken Passing Out (ap (λ y. phase_of y l) here ∙ from) (let mine = eq-eqb x t here in cc) here is none (passed verb)
            | inr ne ↦ untouched t verb s l l' es x (old x) (let apart = ne_eqb x t ne in cc) (λ n. grind (arith, nat_tests)) (rw (is, none) refl)
          ]
    ]

-- a verb claims in one direction only
one_way : (verb : Verb) → claims_to Read verb ≡ true → claims_to Write verb ≡ false
one_way ClaimRead h = refl
one_way ClaimWrite h = sym h
one_way Move h = refl
one_way Leave h = refl

claims_one : (verb : Verb) (d d' : Direction) → claims_to d verb ≡ true → claims_to d' verb ≡ true → d ≡ d'
claims_one verb Read Read h k = refl
claims_one verb Read Write h k = let w = one_way verb h in grind arith
claims_one verb Write Read h k = let w = one_way verb k in grind arith
claims_one verb Write Write h k = refl

-- both are the last claim, so they are the same
pub claim_one : (x : ℕ) (d d' : Direction) (es : List Event) → LastClaim x d es → LastClaim x d' es → d ≡ d'
claim_one x d d' es (i, (within, there, none)) (i', (within', there', none')) =
    elim (cases_order i i') [
      | inl e ↦ claims_one (at es i).verb d d' (grind (arith, nat_tests)) (grind (arith, nat_tests))
      | inr (inl lt) ↦ let quiet = none i' lt within' in grind (arith, nat_tests)
      | inr (inr lt) ↦ let quiet = none' i lt within in grind (arith, nat_tests)
    ]

-- holding and waiting alike: the direction of a phase that a task is in exactly while w holds is that of its last claim
module _ (x : ℕ) (es : List Event) (p : Phase) (agrees : Agrees x es p) (stage : Direction → Phase) (is : Phase → Bool) (w : Type 0) (exact : Exactly (is p) w) where
  directed_law : ((d : Direction) → is (stage d) ≡ true) → ((d : Direction) → directed d (stage d) ≡ true) → (is p ≡ true → (d : Direction) × (p ≡ stage d)) → (d : Direction) → (p ≡ stage d → w × LastClaim x d es) × (w × LastClaim x d es → p ≡ stage d)
  directed_law on way back d = (
    λ e. (exact.0 (ap is e ∙ on d), agrees.claim d (ap (directed d) e ∙ way d)),
    λ (h, last).
        let d' = (back (exact.1 h)).0 in
        let e : p ≡ stage d' = (back (exact.1 h)).1 in
        e ∙ ap stage (claim_one x d' d es (agrees.claim d' (ap (directed d') e ∙ way d')) last),
  )

held : (p : Phase) → holding p ≡ true → (d : Direction) × (p ≡ Holding d)
held Out h = grind arith
held (Claiming d) h = grind arith
held (AtQueueLock d) h = grind arith
held (Queueing d) h = grind arith
held (Queued d) h = grind arith
held (Holding d) h = (d, refl)
held Owing h = grind arith
held Passing h = grind arith

waited : (p : Phase) → waiting p ≡ true → (d : Direction) × (p ≡ Queued d)
waited p h = elim (or_cases (queued_to Read p) (queued_to Write p) h) [ inl r ↦ (Read, queued_phase Read p r) | inr r ↦ (Write, queued_phase Write p r) ]

pub holding_law : (x : ℕ) (es : List Event) (p : Phase) → Agrees x es p → (d : Direction) → (p ≡ Holding d → HoldsTo d x es) × (HoldsTo d x es → p ≡ Holding d)
holding_law x es p agrees = directed_law x es p agrees Holding holding (Holds x es) agrees.holds either_way way_itself (held p)

pub queued_law : (x : ℕ) (es : List Event) (p : Phase) → Agrees x es p → (d : Direction) → (p ≡ Queued d → QueuedTo d x es) × (QueuedTo d x es → p ≡ Queued d)
queued_law x es p agrees = directed_law x es p agrees Queued waiting (IsQueued x es) agrees.waits either_way way_itself (waited p)

owed_phase : (p : Phase) → owes p ≡ true → OwesNow p
owed_phase Out h = grind arith
owed_phase (Claiming d) h = grind arith
owed_phase (AtQueueLock d) h = grind arith
owed_phase (Queueing d) h = grind arith
owed_phase (Queued d) h = grind arith
owed_phase (Holding d) h = grind arith
owed_phase Owing h = inl refl
owed_phase Passing h = inr refl

pub owing_law : (x : ℕ) (es : List Event) (p : Phase) → Agrees x es p → (OwesNow p → IsOwing x es) × (IsOwing x es → OwesNow p)
owing_law x es p agrees = (λ now'. agrees.owed.0 (elim now' [ inl e ↦ ap owes e | inr e ↦ ap owes e ]), λ h. owed_phase p (agrees.owed.1 h))
