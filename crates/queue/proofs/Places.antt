-- Where a reader is placed, by the parts of the list. Assumes nothing.
use Rattle.std.proofs.Common.{◌≡◌, ℕ, true, false, not, ◌&&◌, ◌||◌, List, [], ◌∷◌, ◌++◌, refl, ap, ◌∙◌, arith}
use Rattle.std.proofs.lemmas.Bool.{or_parts, or_left, or_right, cond-false}
use Rattle.std.proofs.lemmas.Bool.Decides.{nat_tests}
use Rattle.types.specs.declared.Entry.{Entry}
use Rattle.queue.specs.Queues.{is_reader, has_reader, has_task, behind_last_reader}

pub has_reader_append : (xs ys : List Entry) → has_reader (xs ++ ys) ≡ (has_reader xs || has_reader ys)
has_reader_append [] ys = refl
has_reader_append (x ∷ xs) ys =
    elim (is_reader x) as (λ b. (b || has_reader (xs ++ ys)) ≡ ((b || has_reader xs) || has_reader ys))
    [ true ↦ refl | false ↦ has_reader_append xs ys ]

pub has_task_append : (t : ℕ) (xs ys : List Entry) → has_task t (xs ++ ys) ≡ (has_task t xs || has_task t ys)
has_task_append t [] ys = refl
has_task_append t (x ∷ xs) ys = let ih = has_task_append t xs ys in grind (arith, nat_tests)

-- with no reader, the new one goes to the end
pub behind_none : (new : Entry) (xs : List Entry) → has_reader xs ≡ false → behind_last_reader new xs ≡ xs ++ (new ∷ [])
behind_none new [] none = refl
behind_none new (x ∷ xs) none =
    let ih = behind_none new xs (or_parts (is_reader x) (has_reader xs) none).1 in
    let no_reader = (or_parts (is_reader x) (has_reader xs) none).0 in
    rw no_reader (ap (λ l. x ∷ l) ih)

-- behind the last reader, and ahead of the writers there
pub behind_last : (new : Entry) (xs : List Entry) (e : Entry) (ys : List Entry) → is_reader e ≡ true → has_reader ys ≡ false → behind_last_reader new (xs ++ (e ∷ ys)) ≡ xs ++ (e ∷ new ∷ ys)
behind_last new [] e ys reads none = rw (reads, none) refl
behind_last new (x ∷ xs) e ys reads none =
    let ih = behind_last new xs e ys reads none in
    let some : has_reader (xs ++ (e ∷ ys)) ≡ true = has_reader_append xs (e ∷ ys) ∙ or_right (has_reader xs) (has_reader (e ∷ ys)) (or_left (is_reader e) (has_reader ys) reads) in
    let not_last : (is_reader x && not (has_reader (xs ++ (e ∷ ys)))) ≡ false = grind (arith, nat_tests) in
    cond-false (is_reader x && not (has_reader (xs ++ (e ∷ ys)))) _ _ not_last ∙ ap (λ l. x ∷ l) ih
