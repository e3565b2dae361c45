-- How many readers a list has, by its parts, after a join, at its front and against its length. Assumes nothing.
use Rattle.std.proofs.Common.{◌≡◌, ℕ, ◌+◌, ◌≤◌, Bool, true, false, cond, not, ◌&&◌, ◌||◌, ltb, List, [], ◌∷◌, ◌++◌, length, refl, arith}
use Rattle.std.proofs.lemmas.Bool.{cond_both}
use Rattle.std.proofs.lemmas.Bool.Decides.{nat_tests}
use Rattle.types.specs.declared.Direction.{Direction}
use Rattle.types.specs.declared.Direction.TheVariants.{Read, Write}
use Rattle.types.specs.declared.Entry.{Entry}
use Rattle.queue.specs.Queues.{is_reader, has_reader, reader_count, readers_first, readers_are_neighbours, behind_last_reader, placed}

-- The readers at the front.
abbrev pub front_of : List Entry → List Entry
front_of [] = []
front_of (e ∷ es) = cond (is_reader e) (e ∷ front_of es) []

-- Some entry waits to write.
abbrev pub has_writer_in : List Entry → Bool
has_writer_in [] = false
has_writer_in (e ∷ es) = not (is_reader e) || has_writer_in es

pub count_append : (xs ys : List Entry) → reader_count (xs ++ ys) ≡ reader_count xs + reader_count ys
count_append [] ys = omega arith
count_append (x ∷ xs) ys = let ih = count_append xs ys in omega arith

behind_count : (new : Entry) (es : List Entry) → reader_count (behind_last_reader new es) ≡ cond (is_reader new) 1 0 + reader_count es
behind_count new [] = refl
behind_count new (e ∷ es) =
    let ih = behind_count new es in
    cond_both (is_reader e && not (has_reader es)) (e ∷ new ∷ es) (e ∷ behind_last_reader new es) (λ l. reader_count l ≡ cond (is_reader new) 1 0 + reader_count (e ∷ es))
    (λ last. omega arith) (λ before. omega arith)

-- placing a reader adds one, placing a writer none
pub reader_placed : (task : ℕ) (d : Direction) (es : List Entry) → reader_count (placed task d es) ≡ cond (is_reader (record { task = task; direction = d })) 1 0 + reader_count es
reader_placed task Read es = behind_count (record { task = task; direction = Read }) es
reader_placed task Write es = let joined = count_append es (record { task = task; direction = Write } ∷ []) in omega arith

pub reader_some : (es : List Entry) → has_reader es ≡ ltb 0 (reader_count es)
reader_some [] = refl
reader_some (e ∷ es) = let ih = reader_some es in grind (arith, nat_tests)

pub reader_all : (es : List Entry) → reader_count es ≤ length es
reader_all [] = omega arith
reader_all (e ∷ es) = let ih = reader_all es in grind (arith, nat_tests)

pub writer_some : (es : List Entry) → has_writer_in es ≡ ltb (reader_count es) (length es)
writer_some [] = refl
writer_some (e ∷ es) = let ih = writer_some es in let fewer = reader_all es in grind (arith, nat_tests)

first_count : (es : List Entry) → readers_first es ≡ true → length (front_of es) ≡ reader_count es
first_count [] fine = refl
first_count (e ∷ es) fine =
    let ih = first_count es in
    let some = reader_some es in
    cond_both (is_reader e) (e ∷ front_of es) [] (λ l. length l ≡ reader_count (e ∷ es)) (λ reads. grind (arith, nat_tests)) (λ writes. grind (arith, nat_tests))

-- where a reader is first, the readers at the front are all the readers
pub front_count : (e : Entry) (es : List Entry) → is_reader e ≡ true → readers_are_neighbours (e ∷ es) ≡ true → length (front_of (e ∷ es)) ≡ reader_count (e ∷ es)
front_count e es reads fine =
    let rest = first_count es in
    cond_both (is_reader e) (e ∷ front_of es) [] (λ l. length l ≡ reader_count (e ∷ es)) (λ _. grind (arith, nat_tests)) (λ writes. grind (arith, nat_tests))
