-- Where a new entry goes, by the task that it goes behind, and what is then last. Assumes nothing.
use Rattle.std.proofs.Common.{◌≡◌, ℕ, ◌<◌, true, false, cond, not, ◌&&◌, ◌||◌, eqb, List, [], ◌∷◌, ◌++◌, sym, refl, ap, ◌∙◌, arith}
use Rattle.std.proofs.lemmas.Bool.{or_right, cond-true, cond-false, cond_both, and_parts, not-true, eq-eqb}
use Rattle.std.proofs.lemmas.Bool.Decides.{nat_tests}
use Rattle.types.specs.declared.Direction.{Direction}
use Rattle.types.specs.declared.Direction.TheVariants.{Read, Write}
use Rattle.types.specs.declared.Entry.{Entry}
use Rattle.queue.specs.Queues.{is_reader, has_reader, has_task, tasks_in_range, no_task_twice, behind_last_reader, placed}
use Rattle.queue.proofs.Places.{behind_none, has_reader_append}
use Rattle.queue.proofs.Laws.{Lawful, behind_reader}
use Rattle.chain.specs.Walks.{Laws, entry_of, last_task, last_reader_of, reader_after, goes_behind, behind_task}

pub apart : (a b : ℕ) (es : List Entry) → has_task a es ≡ false → has_task b es ≡ true → eqb a b ≡ false
apart a b [] absent there = grind (arith, nat_tests)
apart a b (e ∷ es) absent there =
    let ih : has_task a es ≡ false → has_task b es ≡ true → eqb a b ≡ false = apart a b es in
    grind (arith, nat_tests)

pub small : (t : ℕ) (es : List Entry) → tasks_in_range es ≡ true → has_task t es ≡ true → t < 64
small t [] fine there = grind (arith, nat_tests)
small t (e ∷ es) fine there =
    let ih : tasks_in_range es ≡ true → has_task t es ≡ true → t < 64 = small t es in
    grind (arith, nat_tests)

pub last_there : (e : Entry) (es : List Entry) → has_task (last_task (e ∷ es)) (e ∷ es) ≡ true
last_there e [] = grind (arith, nat_tests)
last_there e (x ∷ es) = or_right (eqb e.task (last_task (x ∷ es))) (has_task (last_task (x ∷ es)) (x ∷ es)) (last_there x es)

reader_there : (es : List Entry) → has_reader es ≡ true → has_task (last_reader_of es) es ≡ true
reader_there [] some = grind (arith, nat_tests)
reader_there (e ∷ es) some =
    let ih : has_reader es ≡ true → has_task (last_reader_of es) es ≡ true = reader_there es in
    grind (arith, nat_tests)

no_reader : (es : List Entry) → has_reader es ≡ false → last_reader_of es ≡ 64
no_reader [] none = refl
no_reader (e ∷ es) none = grind (arith, nat_tests)

behind_end : (new : Entry) (es : List Entry) → no_task_twice es ≡ true → behind_task (last_task es) new es ≡ es ++ (new ∷ [])
behind_end new [] once = refl
behind_end new (e ∷ []) once = cond-true (eqb e.task e.task) _ _ (eq-eqb _ _ refl)
behind_end new (e ∷ x ∷ es) once =
    let parts = and_parts (not (has_task e.task (x ∷ es))) (no_task_twice (x ∷ es)) once in
    let other = apart e.task (last_task (x ∷ es)) (x ∷ es) (not-true _ parts.0) (last_there x es) in
    cond-false (eqb e.task (last_task (x ∷ es))) _ _ other ∙ ap (λ l. e ∷ l) (behind_end new (x ∷ es) parts.1)

behind_last_reader_lem : (new : Entry) (es : List Entry) → no_task_twice es ≡ true → has_reader es ≡ true → behind_task (last_reader_of es) new es ≡ behind_last_reader new es
behind_last_reader_lem new [] once some = refl
behind_last_reader_lem new (e ∷ es) once some =
    let parts = and_parts (not (has_task e.task es)) (no_task_twice es) once in
    let ih : has_reader es ≡ true → behind_task (last_reader_of es) new es ≡ behind_last_reader new es = behind_last_reader_lem new es parts.1 in
    let other : has_reader es ≡ true → eqb e.task (last_reader_of es) ≡ false = λ h. apart e.task (last_reader_of es) es (not-true _ parts.0) (reader_there es h) in
    grind (arith, nat_tests)

reader_known : (es : List Entry) → tasks_in_range es ≡ true → eqb (last_reader_of es) 64 ≡ not (has_reader es)
reader_known es fine =
    let none = no_reader es in
    let some : has_reader es ≡ true → last_reader_of es < 64 = λ h. small (last_reader_of es) es fine (reader_there es h) in
    grind (arith, nat_tests)

pub placed_behind : (task : ℕ) (d : Direction) (es : List Entry) → tasks_in_range es ≡ true → no_task_twice es ≡ true → placed task d es ≡ behind_task (goes_behind d es) (entry_of task d) es
placed_behind task Write es fine once = sym (behind_end (entry_of task Write) es once)
placed_behind task Read es fine once =
    let new : Entry = entry_of task Read in
    let known = reader_known es fine in
    sym (cond_both (eqb (last_reader_of es) 64) (last_task es) (last_reader_of es) (λ q. behind_task q new es ≡ behind_last_reader new es)
    (λ none. behind_end new es once ∙ sym (behind_none new es (grind (arith, nat_tests))))
    (λ some. behind_last_reader_lem new es once (grind (arith, nat_tests))))

-- a list that is not empty has the task that the new entry goes behind
pub behind_there : (d : Direction) (e : Entry) (es : List Entry) → tasks_in_range (e ∷ es) ≡ true → has_task (goes_behind d (e ∷ es)) (e ∷ es) ≡ true
behind_there Write e es fine = last_there e es
behind_there Read e es fine =
    let known = reader_known (e ∷ es) fine in
    cond_both (eqb (last_reader_of (e ∷ es)) 64) (last_task (e ∷ es)) (last_reader_of (e ∷ es)) (λ q. has_task q (e ∷ es) ≡ true)
    (λ none. last_there e es) (λ some. reader_there (e ∷ es) (grind (arith, nat_tests)))

pub behind_has : (t q : ℕ) (new : Entry) (es : List Entry) → has_task t (behind_task q new es) ≡ (eqb new.task t || has_task t es)
behind_has t q new [] = refl
behind_has t q new (e ∷ es) =
    let ih = behind_has t q new es in
    cond_both (eqb e.task q) (e ∷ new ∷ es) (e ∷ behind_task q new es) (λ l. has_task t l ≡ (eqb new.task t || has_task t (e ∷ es)))
    (λ here. grind (arith, nat_tests)) (λ later. grind (arith, nat_tests))

last_over : (e : Entry) (q : ℕ) (new : Entry) (es : List Entry) → last_task (e ∷ behind_task q new es) ≡ last_task (behind_task q new es)
last_over e q new [] = refl
last_over e q new (x ∷ es) = cond_both (eqb x.task q) (x ∷ new ∷ es) (x ∷ behind_task q new es) (λ l. last_task (e ∷ l) ≡ last_task l) (λ here. refl) (λ later. refl)

last_behind : (q : ℕ) (new : Entry) (es : List Entry) → no_task_twice es ≡ true → has_task q es ≡ true → last_task (behind_task q new es) ≡ cond (eqb q (last_task es)) new.task (last_task es)
last_behind q new [] once there = grind (arith, nat_tests)
last_behind q new (e ∷ []) once there = grind (arith, nat_tests)
last_behind q new (e ∷ x ∷ es) once there =
    let parts = and_parts (not (has_task e.task (x ∷ es))) (no_task_twice (x ∷ es)) once in
    let other = apart e.task (last_task (x ∷ es)) (x ∷ es) (not-true _ parts.0) (last_there x es) in
    let ih : has_task q (x ∷ es) ≡ true → last_task (behind_task q new (x ∷ es)) ≡ cond (eqb q (last_task (x ∷ es))) new.task (last_task (x ∷ es)) = last_behind q new (x ∷ es) parts.1 in
    cond_both (eqb e.task q) (e ∷ new ∷ x ∷ es) (e ∷ behind_task q new (x ∷ es)) (λ l. last_task l ≡ cond (eqb q (last_task (x ∷ es))) new.task (last_task (x ∷ es)))
    (λ here. grind (arith, nat_tests))
    (λ later. let found : has_task q (x ∷ es) ≡ true = grind (arith, nat_tests) in last_over e q new (x ∷ es) ∙ ih found)

-- the new entry is last exactly where it goes behind the last
pub last_placed : (d : Direction) (new : Entry) (es : List Entry) → tasks_in_range es ≡ true → no_task_twice es ≡ true → last_task (behind_task (goes_behind d es) new es) ≡ cond (eqb (goes_behind d es) (last_task es)) new.task (last_task es)
last_placed Read new [] fine once = refl
last_placed Write new [] fine once = refl
last_placed d new (e ∷ es) fine once = last_behind (goes_behind d (e ∷ es)) new (e ∷ es) once (behind_there d e es fine)

pub reader_placed : (task : ℕ) (d : Direction) (es : List Entry) → last_reader_of (placed task d es) ≡ reader_after d task (last_reader_of es)
reader_placed task Read [] = refl
reader_placed task Write [] = refl
reader_placed task Read (e ∷ es) =
    let new : Entry = entry_of task Read in
    let some = behind_reader new es in
    let ih = reader_placed task Read es in
    cond_both (is_reader e && not (has_reader es)) (e ∷ new ∷ es) (e ∷ behind_last_reader new es) (λ l. last_reader_of l ≡ task)
    (λ last. grind (arith, nat_tests)) (λ before. grind (arith, nat_tests))
reader_placed task Write (e ∷ es) =
    let some = has_reader_append es (entry_of task Write ∷ []) in
    let ih = reader_placed task Write es in
    grind (arith, nat_tests)

-- what is last once the first entry is taken
pub last_rest : (e : Entry) (es : List Entry) → no_task_twice (e ∷ es) ≡ true → last_task es ≡ cond (eqb (last_task (e ∷ es)) e.task) 64 (last_task (e ∷ es))
last_rest e [] once = grind (arith, nat_tests)
last_rest e (x ∷ es) once =
    let parts = and_parts (not (has_task e.task (x ∷ es))) (no_task_twice (x ∷ es)) once in
    let other = apart e.task (last_task (x ∷ es)) (x ∷ es) (not-true _ parts.0) (last_there x es) in
    grind (arith, nat_tests)

pub reader_rest : (e : Entry) (es : List Entry) → no_task_twice (e ∷ es) ≡ true → last_reader_of es ≡ cond (eqb (last_reader_of (e ∷ es)) e.task) 64 (last_reader_of (e ∷ es))
reader_rest e es once =
    let parts = and_parts (not (has_task e.task es)) (no_task_twice es) once in
    let none = no_reader es in
    let other : has_reader es ≡ true → eqb e.task (last_reader_of es) ≡ false = λ h. apart e.task (last_reader_of es) es (not-true _ parts.0) (reader_there es h) in
    grind (arith, nat_tests)

-- a step that keeps a queue lawful keeps its laws
pub laws_kept : (es after : List Entry) → (Lawful es → Lawful after) → Laws es → Laws after
laws_kept es after step fine =
    let kept = step (record { in_range = fine.0; none_twice = fine.1; neighbours = fine.2 }) in
    (kept.in_range, kept.none_twice, kept.neighbours)
