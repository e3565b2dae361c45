-- Which tasks and entries are in a list that is made of others. Assumes nothing.
use Rattle.std.proofs.Common.{◌≡◌, ℕ, zero, suc, ◌-◌, ◌<◌, ◌≤◌, not, ◌&&◌, ◌||◌, eqb, List, [], ◌∷◌, ◌++◌, length, Some, refl, ap, ◌∙◌, arith}
use Rattle.std.proofs.lemmas.Bool.{cond_both}
use Rattle.std.proofs.lemmas.Bool.Decides.{nat_tests}
use Rattle.types.specs.declared.Direction.{Direction}
use Rattle.types.specs.declared.Direction.TheVariants.{Read, Write}
use Rattle.types.specs.declared.Entry.{Entry}
use Rattle.queue.proofs.Places.{has_task_append}
use Rattle.queue.specs.Queues.{is_reader, has_reader, has_task, behind_last_reader, placed, first, rest, entry_at}

pub behind_has : (t : ℕ) (new : Entry) (es : List Entry) → has_task t (behind_last_reader new es) ≡ (eqb new.task t || has_task t es)
behind_has t new [] = refl
behind_has t new (e ∷ es) =
    let ih = behind_has t new es in
    cond_both (is_reader e && not (has_reader es)) (e ∷ new ∷ es) (e ∷ behind_last_reader new es) (λ l. has_task t l ≡ (eqb new.task t || has_task t (e ∷ es)))
    (λ last. grind (arith, nat_tests)) (λ last. grind (arith, nat_tests))

-- placing an entry adds its task and no other
pub placed_has : (t task : ℕ) (d : Direction) (es : List Entry) → has_task t (placed task d es) ≡ (eqb task t || has_task t es)
placed_has t task Read es = behind_has t (record { task = task; direction = Read }) es
placed_has t task Write es =
    let joined = has_task_append t es (record { task = task; direction = Write } ∷ []) in
    grind (arith, nat_tests)

pub entry_at_near : (n : ℕ) (xs ys : List Entry) → n < length xs → entry_at n (xs ++ ys) ≡ entry_at n xs
entry_at_near n [] ys near = absurd (omega arith)
entry_at_near zero (x ∷ xs) ys near = refl
entry_at_near (suc n) (x ∷ xs) ys near = entry_at_near n xs ys (omega arith)

pub entry_at_far : (n : ℕ) (xs ys : List Entry) → length xs ≤ n → entry_at n (xs ++ ys) ≡ entry_at (n - length xs) ys
entry_at_far n [] ys far = ap (λ i. entry_at i ys) (omega arith)
entry_at_far zero (x ∷ xs) ys far = absurd (omega arith)
entry_at_far (suc n) (x ∷ xs) ys far = entry_at_far n xs ys (omega arith) ∙ ap (λ i. entry_at i ys) (omega arith)

-- a list with a first entry is that entry and the rest
pub first_and_rest : (e : Entry) (es : List Entry) → Some e ≡ first es → es ≡ e ∷ rest es
first_and_rest e [] found = let impossible : ◌≡◌ {A = ℕ} 0 1 = cc in absurd (omega arith)
first_and_rest e (x ∷ es) found = let same : x ≡ e = cc in ap (λ y. y ∷ es) same
