-- How long a queue is: at most 64 entries, fewer while a task may join, and none from its length up. Assumes nothing.
use Rattle.std.proofs.Common.{◌≡◌, ℕ, zero, suc, ◌<◌, ◌≤◌, Bool, true, false, cond, not, ◌&&◌, eqb, ltb, List, [], ◌∷◌, length, None, refl, arith}
use Rattle.std.proofs.lemmas.Bool.{cond_both, and_parts, and_from, not-true, not_from_false}
use Rattle.std.proofs.lemmas.Bool.Decides.{nat_tests}
use Rattle.types.specs.declared.Entry.{Entry}
use Rattle.types.specs.declared.Direction.TheVariants.{Write}
use Rattle.queue.specs.Queues.{has_task, tasks_in_range, no_task_twice, can_join, entry_at}

abbrev tasks_below : ℕ → List Entry → Bool
tasks_below n [] = true
tasks_below n (e ∷ es) = ltb e.task n && tasks_below n es

abbrev without : ℕ → List Entry → List Entry
without t [] = []
without t (e ∷ es) = cond (eqb e.task t) es (e ∷ without t es)

without_task : (t u : ℕ) (es : List Entry) → has_task u es ≡ false → has_task u (without t es) ≡ false
without_task t u [] absent = refl
without_task t u (e ∷ es) absent =
    let ih : has_task u es ≡ false → has_task u (without t es) ≡ false = without_task t u es in
    cond_both (eqb e.task t) es (e ∷ without t es) (λ l. has_task u l ≡ false) (λ _. grind (arith, nat_tests)) (λ _. grind (arith, nat_tests))

without_none_twice : (t : ℕ) (es : List Entry) → no_task_twice es ≡ true → no_task_twice (without t es) ≡ true
without_none_twice t [] fine = refl
without_none_twice t (e ∷ es) fine =
    let parts = and_parts (not (has_task e.task es)) (no_task_twice es) fine in
    let ih = without_none_twice t es parts.1 in
    let absent = without_task t e.task es (not-true (has_task e.task es) parts.0) in
    cond_both (eqb e.task t) es (e ∷ without t es) (λ l. no_task_twice l ≡ true)
    (λ _. parts.1) (λ _. and_from (not (has_task e.task (without t es))) (no_task_twice (without t es)) (not_from_false (has_task e.task (without t es)) absent) ih)

absent_below : (n : ℕ) (es : List Entry) → has_task n es ≡ false → tasks_below (suc n) es ≡ true → tasks_below n es ≡ true
absent_below n [] absent fine = refl
absent_below n (e ∷ es) absent fine =
    let ih : has_task n es ≡ false → tasks_below (suc n) es ≡ true → tasks_below n es ≡ true = absent_below n es in
    grind (arith, nat_tests)

without_below : (n : ℕ) (es : List Entry) → no_task_twice es ≡ true → tasks_below (suc n) es ≡ true → tasks_below n (without n es) ≡ true
without_below n [] once fine = refl
without_below n (e ∷ es) once fine =
    let ih : no_task_twice es ≡ true → tasks_below (suc n) es ≡ true → tasks_below n (without n es) ≡ true = without_below n es in
    let rest : has_task n es ≡ false → tasks_below (suc n) es ≡ true → tasks_below n es ≡ true = absent_below n es in
    cond_both (eqb e.task n) es (e ∷ without n es) (λ l. tasks_below n l ≡ true)
    (λ same. grind (arith, nat_tests)) (λ other. grind (arith, nat_tests))

without_length : (t : ℕ) (es : List Entry) → length es ≤ suc (length (without t es))
without_length t [] = omega arith
without_length t (e ∷ es) =
    let ih = without_length t es in
    cond_both (eqb e.task t) es (e ∷ without t es) (λ l. length (e ∷ es) ≤ suc (length l)) (λ _. omega arith) (λ _. omega arith)

length_below : (n : ℕ) (es : List Entry) → tasks_below n es ≡ true → no_task_twice es ≡ true → length es ≤ n
length_below n [] fine once = omega arith
length_below zero (e ∷ es) fine once = grind (arith, nat_tests)
length_below (suc n) (e ∷ es) fine once =
    let ih = length_below n (without n (e ∷ es)) (without_below n (e ∷ es) once fine) (without_none_twice n (e ∷ es) once) in
    omega (arith, without_length n (e ∷ es))

below_range : (es : List Entry) → tasks_in_range es ≡ true → tasks_below 64 es ≡ true
below_range [] fine = refl
below_range (e ∷ es) fine =
    let parts = and_parts (ltb e.task 64) (tasks_in_range es) fine in
    and_from (ltb e.task 64) (tasks_below 64 es) parts.0 (below_range es parts.1)

-- no task twice and each below 64, so at most 64
pub at_most_64 : (es : List Entry) → tasks_in_range es ≡ true → no_task_twice es ≡ true → length es ≤ 64
at_most_64 es fine once = length_below 64 es (below_range es fine) once

-- the queue that a task may join is not full
pub room_to_join : (task : ℕ) (es : List Entry) → tasks_in_range es ≡ true → no_task_twice es ≡ true → can_join task es ≡ true → length es < 64
room_to_join task es fine once can =
    let new : Entry = record { task = task; direction = Write } in
    let parts = and_parts (ltb task 64) (not (has_task task es)) can in
    at_most_64 (new ∷ es) (and_from (ltb task 64) (tasks_in_range es) parts.0 fine) (and_from (not (has_task task es)) (no_task_twice es) parts.1 once)

-- there is no entry from the length up
pub none_past : (place : ℕ) (es : List Entry) → length es ≤ place → entry_at place es ≡ None
none_past place [] past = refl
none_past zero (e ∷ es) past = absurd (omega arith)
none_past (suc place) (e ∷ es) past = none_past place es (omega arith)
