-- What is told of the front of a queue and of who waits in it. Assumes nothing.
use Rattle.std.proofs.Common.{◌≡◌, ◌≤◌, true, cond, not, ◌||◌, List, [], ◌∷◌, length, Some, None, sym, refl, ap, ◌∙◌, inl, inr, arith}
use Rattle.std.proofs.lemmas.Bool.{cases_Bool, cond_both, cond-true, cond-false}
use Rattle.std.proofs.lemmas.Bool.Decides.{nat_tests}
use Rattle.types.specs.declared.Direction.TheVariants.{Write}
use Rattle.types.specs.declared.Entry.{Entry}
use Rattle.queue.specs.Queues.{is_reader, readers_are_neighbours, reader_count}
use Rattle.queue.proofs.Readers.{front_of, has_writer_in, front_count}
use Rattle.rules.specs.Steps.{has_writer, front_readers, behind_readers}
use Rattle.lock.specs.Taken.{taken_by, front}

-- no writer is among the readers at the front
pub writers_behind : (es : List Entry) → has_writer (behind_readers es) ≡ has_writer es
writers_behind [] = refl
writers_behind (e ∷ es) = let ih = writers_behind es in grind (arith, nat_tests)

-- the queue's own words for writers and for the readers at the front
pub writer_same : (es : List Entry) → has_writer es ≡ has_writer_in es
writer_same [] = refl
writer_same (e ∷ es) = ap (λ b. not (is_reader e) || b) (writer_same es)

front_same : (es : List Entry) → front_readers es ≡ front_of es
front_same [] = refl
front_same (e ∷ es) = ap (λ l. cond (is_reader e) (e ∷ l) []) (front_same es)

-- with no writer at the front, all readers are there and are taken
pub no_writer : (es : List Entry) → front Write es ≡ None → readers_are_neighbours es ≡ true → reader_count es ≡ length (taken_by es)
no_writer [] none fine = refl
no_writer (x ∷ es) none fine =
    elim (cases_Bool (is_reader x)) [
      | inl reads ↦ sym (ap length (cond-true (is_reader x) (front_readers (x ∷ es)) (x ∷ []) reads ∙ front_same (x ∷ es)) ∙ front_count x es reads fine)
      | inr writes ↦ let is : Some x ≡ None = sym (cond-false (is_reader x) None (Some x) writes) ∙ none in cc
    ]

front_fits : (es : List Entry) → length (front_readers es) ≤ length es
front_fits [] = omega arith
front_fits (e ∷ es) = let ih = front_fits es in cond_both (is_reader e) (e ∷ front_readers es) [] (λ l. length l ≤ length (e ∷ es)) (λ _. omega arith) (λ _. omega arith)

-- a pass takes no more than are queued
pub taken_few : (es : List Entry) → length (taken_by es) ≤ length es
taken_few [] = omega arith
taken_few (e ∷ es) = cond_both (is_reader e) (front_readers (e ∷ es)) (e ∷ []) (λ k. length k ≤ length (e ∷ es)) (λ h. front_fits (e ∷ es)) (λ h. omega arith)
