-- The calls of a lock on its setup. Assumes nothing.
use Rattle.std.proofs.Common.{◌≡◌, ℕ, ◌+◌, Bool, true, false, cond, eqb, ltb, leb, [], length, Some, None, Option, Result, sym, refl, ap, ◌∙◌, subst, arith}
use Rattle.std.proofs.lemmas.Bool.{cond-false, cond_both, le-ltb}
use Rattle.types.specs.declared.Direction.{Direction}
use Rattle.types.specs.declared.Direction.TheVariants.{Read, Write}
use Rattle.types.specs.declared.Entry.{Entry}
use Rattle.types.specs.declared.Verb.{Verb}
use Rattle.types.specs.declared.Verb.TheVariants.{Move, Leave}
use Rattle.types.specs.declared.Outcome.{Outcome}
use Rattle.types.specs.declared.Refusal.{Refusal}
use Rattle.types.specs.declared.Refusal.TheVariants.{NotMade, NoSuchTask}
use Rattle.ring.specs.Held.{Held, put_all}
use Rattle.word.specs.Words.{Sizes, Word}
use Rattle.rules.specs.declared.Phase.{Phase}
use Rattle.rules.specs.declared.Phase.TheVariants.{Out, Claiming, AtQueueLock, Queueing, Queued, Holding, Owing, Passing}
use Rattle.rules.specs.Locks.{Lock, phase_of}
use Rattle.rules.specs.Steps.{Done, Room, Answer, refused, step, after, effect, unfit, recorded, gone, leaving, claimed}
use Rattle.rules.specs.Records.{words_of, notices_of, making_words}
use Rattle.lock.specs.Answers.{claim_verb, result_of, archive_room, ring_room, after_making, Called, Made}
use Rattle.driver.specs.Lines.{Setup, setup, call_answer, make_answer, called_of, built_of, setup_called, setup_made}

-- no task is taken
abbrev NoneTaken : Option Done → Type 0
NoneTaken None = Unit {0}
NoneTaken (Some d) = d.taken ≡ []

gone_taken : (owes : Bool) (t : ℕ) (w : Word) (l : Lock) → (gone owes t w l).taken ≡ []
gone_taken true t w l = refl
gone_taken false t w l = refl

claimed_none : (t : ℕ) (d : Direction) (l : Lock) (p : Phase) → NoneTaken (claimed t d l p)
claimed_none t d l Out = refl
claimed_none t d l (Claiming e) = tt
claimed_none t d l (AtQueueLock e) = tt
claimed_none t d l (Queueing e) = tt
claimed_none t d l (Queued e) = tt
claimed_none t d l (Holding e) = tt
claimed_none t d l Owing = tt
claimed_none t d l Passing = tt

leaving_none : (z : Sizes) (t : ℕ) (l : Lock) (p : Phase) → NoneTaken (leaving z t l p)
leaving_none z t l Out = tt
leaving_none z t l (Claiming d) = tt
leaving_none z t l (AtQueueLock d) = tt
leaving_none z t l (Queueing d) = tt
leaving_none z t l (Queued d) = tt
leaving_none z t l (Holding Read) = gone_taken _ t _ l
leaving_none z t l (Holding Write) = gone_taken _ t _ l
leaving_none z t l Owing = tt
leaving_none z t l Passing = tt

-- where no task is taken, the room for notices does not matter
recorded_room : (r : Refusal) (n : Held Entry) (a : Held ℕ) (o : Option Done) → NoneTaken o → recorded r (archive_room a) o ≡ recorded r (ring_room n a) o
recorded_room r n a None none = refl
recorded_room r n a (Some d) none =
    let e : length d.taken ≡ 0 = ap length none in
    cond-false (ltb 0 (length d.taken)) _ _ (le-ltb 0 (length d.taken) (omega arith)) ∙ sym (cond-false (ltb (length n.spare) (length d.taken)) _ _ (le-ltb (length n.spare) (length d.taken) (omega arith)))

recorded_none : (r : Refusal) (room : Room) (o : Option Done) → NoneTaken o → notices_of (recorded r room o) ≡ []
recorded_none r room None none = refl
recorded_none r room (Some d) none =
    cond_both {A = Answer} (ltb room.notices (length d.taken)) _ _ (λ k. notices_of k ≡ []) (λ h. refl) (λ h. cond_both {A = Answer} (ltb room.archive (2 + length d.taken)) _ _ (λ k. notices_of k ≡ []) (λ k. refl) (λ k. none))

-- a call of a task by what it comes to
unfoldable judged : ℕ → Lock → Answer → Answer
judged t l a = cond (eqb l.tasks 0) (refused NotMade) (cond (leb l.tasks t) (refused NoSuchTask) a)

step_room : (z : Sizes) (verb : Verb) (t : ℕ) (b : Setup) → NoneTaken (effect z verb t b.lock) → step z verb t (archive_room b.archive) b.lock ≡ call_answer z verb t b
unfolding call_answer judged
step_room z verb t b none = ap (judged t b.lock) (recorded_room (unfit verb) b.notices b.archive (effect z verb t b.lock) none)

step_none : (z : Sizes) (verb : Verb) (t : ℕ) (b : Setup) → NoneTaken (effect z verb t b.lock) → notices_of (call_answer z verb t b) ≡ []
unfolding call_answer
step_none z verb t b none =
    cond_both {A = Answer} (eqb b.lock.tasks 0) _ _ (λ k. notices_of k ≡ []) (λ h. refl) (λ h. cond_both {A = Answer} (leb b.lock.tasks t) _ _ (λ k. notices_of k ≡ []) (λ k. refl) (λ k. recorded_none (unfit verb) _ _ none))

-- a call's answer and the setup after it are those of the rules
pub record CalledOn (z : Sizes) (verb : Verb) (t : ℕ) (b : Setup) (r : Result Outcome Refusal) (b' : Setup) : Type 0 where
  pub answer : r ≡ called_of z verb t b
  pub after : b' ≡ setup_called z verb t b

called_on : (z : Sizes) (verb : Verb) (t : ℕ) (b : Setup) (room : Room) (r : Result Outcome Refusal) (l' : Lock) (n' : Held Entry) (a' : Held ℕ) → Called z verb t room b.lock b.archive r l' a' → step z verb t room b.lock ≡ call_answer z verb t b → n' ≡ put_all (notices_of (call_answer z verb t b)) b.notices → CalledOn z verb t b r (setup l' n' a')
called_on z verb t b room r l' n' a' called same told =
    let lock-is : l' ≡ after b.lock (call_answer z verb t b) = called.lock ∙ ap (after b.lock) same in
    let words_are : a' ≡ put_all (words_of verb t (call_answer z verb t b)) b.archive = called.words ∙ ap (λ k. put_all (words_of verb t k) b.archive) same in
    record { answer = called.answer ∙ ap result_of same; after = cc }

-- a call that takes no task
quiet_on : (z : Sizes) (verb : Verb) (t : ℕ) (b : Setup) (r : Result Outcome Refusal) (l' : Lock) (a' : Held ℕ) → NoneTaken (effect z verb t b.lock) → Called z verb t (archive_room b.archive) b.lock b.archive r l' a' → CalledOn z verb t b r (setup l' b.notices a')
quiet_on z verb t b r l' a' none called = called_on z verb t b (archive_room b.archive) r l' b.notices a' called (step_room z verb t b none) (ap (λ k. put_all k b.notices) (sym (step_none z verb t b none)))

claim_none : (z : Sizes) (t : ℕ) (d : Direction) (l : Lock) → NoneTaken (effect z (claim_verb d) t l)
claim_none z t Read l = claimed_none t Read l (phase_of t l)
claim_none z t Write l = claimed_none t Write l (phase_of t l)

pub claim_on : (z : Sizes) (verb : Verb) (d : Direction) (t : ℕ) (b : Setup) (r : Result Outcome Refusal) (l' : Lock) (a' : Held ℕ) → verb ≡ claim_verb d → Called z (claim_verb d) t (archive_room b.archive) b.lock b.archive r l' a' → CalledOn z verb t b r (setup l' b.notices a')
claim_on z verb d t b r l' a' is called = subst (λ v. CalledOn z v t b r (setup l' b.notices a')) (sym is) (quiet_on z (claim_verb d) t b r l' a' (claim_none z t d b.lock) called)

pub leave_on : (z : Sizes) (verb : Verb) (t : ℕ) (b : Setup) (r : Result Outcome Refusal) (l' : Lock) (a' : Held ℕ) → verb ≡ Leave → Called z Leave t (archive_room b.archive) b.lock b.archive r l' a' → CalledOn z verb t b r (setup l' b.notices a')
leave_on z verb t b r l' a' is called = subst (λ v. CalledOn z v t b r (setup l' b.notices a')) (sym is) (quiet_on z Leave t b r l' a' (leaving_none z t b.lock (phase_of t b.lock)) called)

pub move_on : (z : Sizes) (verb : Verb) (t : ℕ) (b : Setup) (r : Result Outcome Refusal) (l' : Lock) (n' : Held Entry) (a' : Held ℕ) → verb ≡ Move → Called z Move t (ring_room b.notices b.archive) b.lock b.archive r l' a' → n' ≡ put_all (notices_of (step z Move t (ring_room b.notices b.archive) b.lock)) b.notices → CalledOn z verb t b r (setup l' n' a')
unfolding call_answer
move_on z verb t b r l' n' a' is called told = subst (λ v. CalledOn z v t b r (setup l' n' a')) (sym is) (called_on z Move t b (ring_room b.notices b.archive) r l' n' a' called refl told)

-- a making's answer and the setup after it are those of the rules
pub record MadeOn (z : Sizes) (tasks spin : ℕ) (b : Setup) (r : Result (Unit {0}) Refusal) (b' : Setup) : Type 0 where
  pub answer : r ≡ built_of z tasks spin b
  pub after : b' ≡ setup_made z tasks spin b

pub make_on : (z : Sizes) (tasks spin : ℕ) (b : Setup) (r : Result (Unit {0}) Refusal) (l' : Lock) (a' : Held ℕ) → Made z tasks spin b.lock b.archive r l' a' → MadeOn z tasks spin b r (setup l' b.notices a')
unfolding make_answer
make_on z tasks spin b r l' a' made =
    let lock-is : l' ≡ after_making b.lock (make_answer z tasks spin b) = made.lock in
    let words_are : a' ≡ put_all (making_words tasks spin (make_answer z tasks spin b)) b.archive = made.words in
    record { answer = made.answer; after = cc }
