-- Which tasks are in the queue, after a join and after the front is taken. Assumes nothing.
use Rattle.std.proofs.Common.{◌≡◌, ℕ, Bool, true, false, cond, not, ◌&&◌, ◌||◌, eqb, List, [], ◌∷◌, ◌++◌, sym, refl, ap, ◌∙◌, arith}
use Rattle.std.proofs.lemmas.Bool.{cond_both}
use Rattle.std.proofs.lemmas.Bool.Decides.{nat_tests}
use Rattle.types.specs.declared.Direction.{Direction}
use Rattle.types.specs.declared.Direction.TheVariants.{Read, Write}
use Rattle.types.specs.declared.Entry.{Entry}
use Rattle.queue.specs.Queues.{is_reader, has_reader, has_task, readers_first, readers_are_neighbours, behind_last_reader, placed}
use Rattle.rules.specs.Steps.{has_writer, front_readers, behind_readers}
use Rattle.rules.proofs.Rows.{is_same_way}

abbrev pub is_entry : ℕ → Direction → Entry → Bool
is_entry x d e = eqb e.task x && is_same_way d e.direction

-- The task is in the list, in that direction.
abbrev pub has_entry : ℕ → Direction → List Entry → Bool
has_entry x d [] = false
has_entry x d (e ∷ es) = is_entry x d e || has_entry x d es

pub entry_append : (x : ℕ) (d : Direction) (xs ys : List Entry) → has_entry x d (xs ++ ys) ≡ (has_entry x d xs || has_entry x d ys)
entry_append x d [] ys = refl
entry_append x d (e ∷ xs) ys = let ih = entry_append x d xs ys in grind (arith, nat_tests)

pub writer_append : (xs ys : List Entry) → has_writer (xs ++ ys) ≡ (has_writer xs || has_writer ys)
writer_append [] ys = refl
writer_append (e ∷ xs) ys = let ih = writer_append xs ys in grind (arith, nat_tests)

-- a task that is in the list in some direction is in it
pub entry_task : (x : ℕ) (d : Direction) (es : List Entry) → has_entry x d es ≡ true → has_task x es ≡ true
entry_task x d (e ∷ es) h = let ih = entry_task x d es in grind (arith, nat_tests)
entry_task x d [] h = h

-- and one that is in it in neither is not
pub task_entry : (x : ℕ) (es : List Entry) → has_entry x Read es ≡ false → has_entry x Write es ≡ false → has_task x es ≡ false
task_entry x [] r w = refl
task_entry x (e ∷ es) r w = let ih = task_entry x es in grind (arith, nat_tests)

module _ (p : Entry → Bool) where
  -- Some entry passes a test.
  abbrev pub some_entry : List Entry → Bool
  some_entry [] = false
  some_entry (e ∷ es) = p e || some_entry es

  some_behind : (new : Entry) (es : List Entry) → some_entry (behind_last_reader new es) ≡ (p new || some_entry es)
  some_behind new [] = refl
  some_behind new (e ∷ es) =
      let ih = some_behind new es in
      cond_both (is_reader e && not (has_reader es)) (e ∷ new ∷ es) (e ∷ behind_last_reader new es) (λ l. some_entry l ≡ (p new || some_entry (e ∷ es)))
      (λ last. grind (arith, nat_tests)) (λ last. grind (arith, nat_tests))

  some_end : (new : Entry) (es : List Entry) → some_entry (es ++ (new ∷ [])) ≡ (p new || some_entry es)
  some_end new [] = refl
  some_end new (e ∷ es) = let ih = some_end new es in grind (arith, nat_tests)

  some_placed : (t : ℕ) (d : Direction) (es : List Entry) → some_entry (placed t d es) ≡ (p (record { task = t; direction = d }) || some_entry es)
  some_placed t Read es = some_behind (record { task = t; direction = Read }) es
  some_placed t Write es = some_end (record { task = t; direction = Write }) es

entry_some : (x : ℕ) (d : Direction) (es : List Entry) → has_entry x d es ≡ some_entry (is_entry x d) es
entry_some x d [] = refl
entry_some x d (e ∷ es) = ap (λ b. is_entry x d e || b) (entry_some x d es)

writer_some : (es : List Entry) → has_writer es ≡ some_entry (λ e. not (is_reader e)) es
writer_some [] = refl
writer_some (e ∷ es) = ap (λ b. not (is_reader e) || b) (writer_some es)

reader_some : (es : List Entry) → has_reader es ≡ some_entry is_reader es
reader_some [] = refl
reader_some (e ∷ es) = ap (λ b. is_reader e || b) (reader_some es)

module _ (t : ℕ) (d : Direction) (es : List Entry) where
  new : Entry
  new = record { task = t; direction = d }

  pub placed_entry : (x : ℕ) (d' : Direction) → has_entry x d' (placed t d es) ≡ ((eqb t x && is_same_way d' d) || has_entry x d' es)
  placed_entry x d' =
      entry_some x d' (placed t d es) ∙ some_placed (is_entry x d') t d es ∙ ap (λ b. (eqb t x && is_same_way d' d) || b) (sym (entry_some x d' es))

  pub placed_writer : has_writer (placed t d es) ≡ (is_same_way d Write || has_writer es)
  placed_writer =
      writer_some (placed t d es) ∙ some_placed (λ e. not (is_reader e)) t d es ∙ ap (λ b. not (is_reader (record { task = t; direction = d })) || b) (sym (writer_some es)) ∙ ap (λ b. b || has_writer es) (way d)
    where
      way : (d : Direction) → not (is_reader (record { task = t; direction = d })) ≡ is_same_way d Write
      way Read = refl
      way Write = refl

  pub placed_reader : has_reader (placed t d es) ≡ (is_same_way d Read || has_reader es)
  placed_reader =
      reader_some (placed t d es) ∙ some_placed is_reader t d es ∙ ap (λ b. is_reader (record { task = t; direction = d }) || b) (sym (reader_some es)) ∙ ap (λ b. b || has_reader es) (way d)
    where
      way : (d : Direction) → is_reader (record { task = t; direction = d }) ≡ is_same_way d Read
      way Read = refl
      way Write = refl

-- the readers at the front and what is behind them make up the queue
pub front_behind : (es : List Entry) → front_readers es ++ behind_readers es ≡ es
front_behind [] = refl
front_behind (e ∷ es) =
    let ih = front_behind es in
    elim (is_reader e) as (λ b. cond b (e ∷ front_readers es) [] ++ cond b (behind_readers es) (e ∷ es) ≡ e ∷ es) [ true ↦ ap (λ l. e ∷ l) ih | false ↦ refl ]

pub front_reads : (es : List Entry) → has_writer (front_readers es) ≡ false
front_reads [] = refl
front_reads (e ∷ es) =
    let ih = front_reads es in
    cond_both (is_reader e) (e ∷ front_readers es) [] (λ l. has_writer l ≡ false) (λ h. grind (arith, nat_tests)) (λ h. refl)

behind_first_lem : (es : List Entry) → readers_first es ≡ true → has_reader (behind_readers es) ≡ false
behind_first_lem [] fine = refl
behind_first_lem (e ∷ es) fine =
    let ih = behind_first_lem es in
    cond_both (is_reader e) (behind_readers es) (e ∷ es) (λ l. has_reader l ≡ false) (λ h. grind (arith, nat_tests)) (λ h. grind (arith, nat_tests))

-- behind the readers at the front there is no reader
pub behind_writes : (e : Entry) (es : List Entry) → is_reader e ≡ true → readers_are_neighbours (e ∷ es) ≡ true → has_reader (behind_readers (e ∷ es)) ≡ false
behind_writes e es reads fine =
    let rest : has_reader (behind_readers es) ≡ false = behind_first_lem es (grind (arith, nat_tests)) in
    cond_both (is_reader e) (behind_readers es) (e ∷ es) (λ l. has_reader l ≡ false) (λ h. rest) (λ h. grind (arith, nat_tests))
