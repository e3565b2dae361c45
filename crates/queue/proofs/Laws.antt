-- Joining and taking the first keep the laws of a queue. Assumes nothing.
use Rattle.std.proofs.Common.{◌≡◌, ℕ, true, false, not, ◌&&◌, ◌||◌, eqb, ltb, List, [], ◌∷◌, ◌++◌, refl, arith}
use Rattle.std.proofs.lemmas.Bool.{or_parts, cond_both, and_parts, not-true}
use Rattle.std.proofs.lemmas.Bool.Decides.{nat_tests}
use Rattle.types.specs.declared.Direction.{Direction}
use Rattle.types.specs.declared.Direction.TheVariants.{Read, Write}
use Rattle.types.specs.declared.Entry.{Entry}
use Rattle.queue.proofs.Members.{behind_has}
use Rattle.queue.proofs.Places.{has_reader_append, has_task_append}
use Rattle.queue.specs.Queues.{is_reader, has_reader, has_task, tasks_in_range, no_task_twice, readers_first, readers_are_neighbours, can_join, behind_last_reader, placed, join, rest}

pub record Lawful (es : List Entry) : Type 0 where
  pub in_range : tasks_in_range es ≡ true
  pub none_twice : no_task_twice es ≡ true
  pub neighbours : readers_are_neighbours es ≡ true

-- What a step keeps of a list, in whichever place the new entry goes.
module _ (new : Entry) where
  pub behind_reader : (xs : List Entry) → has_reader (behind_last_reader new xs) ≡ (is_reader new || has_reader xs)
  behind_reader [] = refl
  behind_reader (x ∷ xs) =
      let ih = behind_reader xs in
      cond_both (is_reader x && not (has_reader xs)) (x ∷ new ∷ xs) (x ∷ behind_last_reader new xs) (λ l. has_reader l ≡ (is_reader new || has_reader (x ∷ xs)))
      (λ last. grind (arith, nat_tests)) (λ last. grind (arith, nat_tests))

  behind_range : (xs : List Entry) → ltb new.task 64 ≡ true → tasks_in_range xs ≡ true → tasks_in_range (behind_last_reader new xs) ≡ true
  behind_range [] small fine = grind (arith, nat_tests)
  behind_range (x ∷ xs) small fine =
      let parts = and_parts (ltb x.task 64) (tasks_in_range xs) fine in
      let ih = behind_range xs small parts.1 in
      cond_both (is_reader x && not (has_reader xs)) (x ∷ new ∷ xs) (x ∷ behind_last_reader new xs) (λ l. tasks_in_range l ≡ true)
      (λ last. grind (arith, nat_tests)) (λ last. grind (arith, nat_tests))

  behind_none_twice : (xs : List Entry) → has_task new.task xs ≡ false → no_task_twice xs ≡ true → no_task_twice (behind_last_reader new xs) ≡ true
  behind_none_twice [] fresh fine = refl
  behind_none_twice (x ∷ xs) fresh fine =
      let parts = and_parts (not (has_task x.task xs)) (no_task_twice xs) fine in
      let others = or_parts (eqb x.task new.task) (has_task new.task xs) fresh in
      let ih = behind_none_twice xs others.1 parts.1 in
      let there = behind_has x.task new xs in
      cond_both (is_reader x && not (has_reader xs)) (x ∷ new ∷ xs) (x ∷ behind_last_reader new xs) (λ l. no_task_twice l ≡ true)
      (λ last. grind (arith, nat_tests)) (λ last. grind (arith, nat_tests))

  behind_readers_first : (xs : List Entry) → is_reader new ≡ true → readers_first xs ≡ true → has_reader xs ≡ true → readers_first (behind_last_reader new xs) ≡ true
  behind_readers_first [] reads fine some = grind (arith, nat_tests)
  behind_readers_first (x ∷ xs) reads fine some =
      let ih : readers_first xs ≡ true → has_reader xs ≡ true → readers_first (behind_last_reader new xs) ≡ true = behind_readers_first xs reads in
      cond_both (is_reader x && not (has_reader xs)) (x ∷ new ∷ xs) (x ∷ behind_last_reader new xs) (λ l. readers_first l ≡ true)
      (λ last. grind (arith, nat_tests)) (λ last. grind (arith, nat_tests))

  behind_neighbours : (xs : List Entry) → is_reader new ≡ true → readers_are_neighbours xs ≡ true → readers_are_neighbours (behind_last_reader new xs) ≡ true
  behind_neighbours [] reads fine = grind (arith, nat_tests)
  behind_neighbours (x ∷ xs) reads fine =
      let ih : readers_are_neighbours xs ≡ true → readers_are_neighbours (behind_last_reader new xs) ≡ true = behind_neighbours xs reads in
      let first = behind_readers_first xs reads in
      cond_both (is_reader x && not (has_reader xs)) (x ∷ new ∷ xs) (x ∷ behind_last_reader new xs) (λ l. readers_are_neighbours l ≡ true)
      (λ last. grind (arith, nat_tests)) (λ last. grind (arith, nat_tests))

  end_range : (xs : List Entry) → ltb new.task 64 ≡ true → tasks_in_range xs ≡ true → tasks_in_range (xs ++ (new ∷ [])) ≡ true
  end_range [] small fine = grind (arith, nat_tests)
  end_range (x ∷ xs) small fine = let ih : tasks_in_range xs ≡ true → tasks_in_range (xs ++ (new ∷ [])) ≡ true = end_range xs small in grind (arith, nat_tests)

  end_none_twice : (xs : List Entry) → has_task new.task xs ≡ false → no_task_twice xs ≡ true → no_task_twice (xs ++ (new ∷ [])) ≡ true
  end_none_twice [] fresh fine = refl
  end_none_twice (x ∷ xs) fresh fine =
      let ih : has_task new.task xs ≡ false → no_task_twice xs ≡ true → no_task_twice (xs ++ (new ∷ [])) ≡ true = end_none_twice xs in
      let there = has_task_append x.task xs (new ∷ []) in
      grind (arith, nat_tests)

  end_readers_first : (xs : List Entry) → is_reader new ≡ false → readers_first xs ≡ true → readers_first (xs ++ (new ∷ [])) ≡ true
  end_readers_first [] writes fine = grind (arith, nat_tests)
  end_readers_first (x ∷ xs) writes fine =
      let ih : readers_first xs ≡ true → readers_first (xs ++ (new ∷ [])) ≡ true = end_readers_first xs writes in
      let there = has_reader_append xs (new ∷ []) in
      grind (arith, nat_tests)

  end_neighbours : (xs : List Entry) → is_reader new ≡ false → readers_are_neighbours xs ≡ true → readers_are_neighbours (xs ++ (new ∷ [])) ≡ true
  end_neighbours [] writes fine = grind (arith, nat_tests)
  end_neighbours (x ∷ xs) writes fine =
      let ih : readers_are_neighbours xs ≡ true → readers_are_neighbours (xs ++ (new ∷ [])) ≡ true = end_neighbours xs writes in
      let first = end_readers_first xs writes in
      grind (arith, nat_tests)

no_reader_neighbours : (xs : List Entry) → has_reader xs ≡ false → readers_are_neighbours xs ≡ true
no_reader_neighbours [] none = refl
no_reader_neighbours (x ∷ xs) none = let ih = no_reader_neighbours xs in grind (arith, nat_tests)

readers_first_neighbours : (xs : List Entry) → readers_first xs ≡ true → readers_are_neighbours xs ≡ true
readers_first_neighbours [] fine = refl
readers_first_neighbours (x ∷ xs) fine = let none = no_reader_neighbours xs in grind (arith, nat_tests)

pub placed_lawful : (task : ℕ) (d : Direction) (es : List Entry) → can_join task es ≡ true → Lawful es → Lawful (placed task d es)
placed_lawful task Read es can fine =
    let new : Entry = record { task = task; direction = Read } in
    let parts = and_parts (ltb task 64) (not (has_task task es)) can in
    let absent = not-true (has_task task es) parts.1 in
    record {
      in_range = behind_range new es parts.0 fine.in_range;
      none_twice = behind_none_twice new es absent fine.none_twice;
      neighbours = behind_neighbours new es refl fine.neighbours;
    }
placed_lawful task Write es can fine =
    let new : Entry = record { task = task; direction = Write } in
    let parts = and_parts (ltb task 64) (not (has_task task es)) can in
    let absent = not-true (has_task task es) parts.1 in
    record {
      in_range = end_range new es parts.0 fine.in_range;
      none_twice = end_none_twice new es absent fine.none_twice;
      neighbours = end_neighbours new es refl fine.neighbours;
    }

pub join_lawful : (task : ℕ) (d : Direction) (es : List Entry) → Lawful es → Lawful (join task d es)
join_lawful task d es fine = cond_both (can_join task es) (placed task d es) es Lawful (λ can. placed_lawful task d es can fine) (λ _. fine)

pub rest_lawful : (es : List Entry) → Lawful es → Lawful (rest es)
rest_lawful [] fine = fine
rest_lawful (e ∷ es) fine =
    record {
      in_range = (and_parts (ltb e.task 64) (tasks_in_range es) fine.in_range).1;
      none_twice = (and_parts (not (has_task e.task es)) (no_task_twice es) fine.none_twice).1;
      neighbours = let h = fine.neighbours in let first = readers_first_neighbours es in grind (arith, nat_tests);
    }
