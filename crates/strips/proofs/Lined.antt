-- What a push to one strip, and a take from one, make of the three in a line. Assumes nothing.
use Rattle.std.proofs.Common.{◌≡◌, ℕ, zero, suc, ◌+◌, ◌-◌, ◌<◌, ◌≤◌, false, List, [], ◌∷◌, ◌++◌, length, get_or, drop, Option, Some, None, sym, refl, ap, ◌∙◌, arith}
use Rattle.std.specs.Borrow.{Bor}
use Rattle.std.specs.List.{slice_get}
use Rattle.std.proofs.lemmas.Grind.{common_steps}
use Rattle.std.proofs.lemmas.Option.{slice_get_within, slice_get_cases, gets}
use Rattle.std.proofs.lemmas.List.{at_drop_more, get_or_default, append_assoc, append-nil, length-append, length-map, map_push, nil_from_length}
use Rattle.types.specs.declared.Direction.{Direction}
use Rattle.types.specs.declared.Direction.TheVariants.{Read, Write}
use Rattle.types.specs.declared.Entry.{Entry}
use Rattle.queue.specs.Queues.{has_reader, reader_count, behind_last_reader, placed, entry_at}
use Rattle.queue.proofs.Members.{entry_at_near, entry_at_far}
use Rattle.queue.proofs.Readers.{count_append}
use Rattle.strips.specs.declared.strip.Strip.{Strip}
use Rattle.strips.specs.Tasks.{tasks_of}
use Rattle.strips.specs.Entries.{entry_of, entries_as, lined}

pub length_lined : (ws rs vs : List ℕ) → length (lined ws rs vs) ≡ length ws + length rs + length vs
unfolding lined
length_lined ws rs vs = simp (length-append, length-map) (omega arith)

count_readers : (ts : List ℕ) → reader_count (entries_as Read ts) ≡ length ts
count_readers [] = refl
count_readers (t ∷ ts) = let ih = count_readers ts in omega arith

count_writers : (ts : List ℕ) → reader_count (entries_as Write ts) ≡ 0
count_writers [] = refl
count_writers (t ∷ ts) = let ih = count_writers ts in omega arith

pub count_lined : (ws rs vs : List ℕ) → reader_count (lined ws rs vs) ≡ length rs
unfolding lined
count_lined ws rs vs = simp (count_append, count_readers, count_writers) (omega arith)

no_reader : (ts : List ℕ) → has_reader (entries_as Write ts) ≡ false
no_reader [] = refl
no_reader (t ∷ ts) = no_reader ts

-- A new reader passes the writers that no reader is behind, and the readers.
behind_writers : (new : Entry) (ws : List ℕ) (es : List Entry) → behind_last_reader new (entries_as Write ws ++ es) ≡ entries_as Write ws ++ behind_last_reader new es
behind_writers new [] es = refl
behind_writers new (w ∷ ws) es = ap (λ l. entry_of Write w ∷ l) (behind_writers new ws es)

behind_readers_lem : (new : Entry) (r : ℕ) (rs : List ℕ) (es : List Entry) → has_reader es ≡ false → behind_last_reader new (entries_as Read (r ∷ rs) ++ es) ≡ entries_as Read (r ∷ rs) ++ (new ∷ es)
behind_readers_lem new r [] es none = rw none refl
behind_readers_lem new r (q ∷ rs) es none = ap (λ l. entry_of Read r ∷ l) (behind_readers_lem new q rs es none)

pub lined_reader : (t : ℕ) (ws rs vs : List ℕ) → (length rs ≡ 0 → length vs ≡ 0) → lined ws (rs ++ (t ∷ [])) vs ≡ placed t Read (lined ws rs vs)
unfolding lined
lined_reader t ws [] vs settled =
    rw (nil_from_length vs (settled refl)) (sym (behind_writers (entry_of Read t) ws []))
lined_reader t ws (r ∷ rs) vs settled =
    let new : Entry = entry_of Read t in
    let all = behind_writers new ws (entries_as Read (r ∷ rs) ++ entries_as Write vs) ∙ ap (λ l. entries_as Write ws ++ l) (behind_readers_lem new r rs (entries_as Write vs) (no_reader vs)) in
    let pushed = map_push (entry_of Read) (r ∷ rs) t in
    let joined = append_assoc (entries_as Read (r ∷ rs)) (new ∷ []) (entries_as Write vs) in
    ap (λ l. entries_as Write ws ++ (l ++ entries_as Write vs)) pushed ∙ ap (λ l. entries_as Write ws ++ l) joined ∙ sym all

pub lined_ahead : (t : ℕ) (ws rs vs : List ℕ) → length rs ≡ 0 → length vs ≡ 0 → lined (ws ++ (t ∷ [])) rs vs ≡ placed t Write (lined ws rs vs)
unfolding lined
lined_ahead t ws rs vs no-readers no-writers =
    rw (nil_from_length rs no-readers, nil_from_length vs no-writers)
    (append-nil (entries_as Write (ws ++ (t ∷ []))) ∙ map_push (entry_of Write) ws t ∙ ap (λ l. l ++ (entry_of Write t ∷ [])) (sym (append-nil (entries_as Write ws))))

pub lined_behind : (t : ℕ) (ws rs vs : List ℕ) → lined ws rs (vs ++ (t ∷ [])) ≡ placed t Write (lined ws rs vs)
unfolding lined
lined_behind t ws rs vs = simp (map_push, append_assoc)

taken : (t : ℕ) (ts : List ℕ) → slice_get ts 0 ≡ Some t → ts ≡ t ∷ drop 1 ts
taken t [] found = absurd (cc)
taken t (x ∷ ts) found = let same : x ≡ t = cc in ap (λ y. y ∷ ts) same

pub none_taken : (ts : List ℕ) → slice_get ts 0 ≡ None → ts ≡ []
none_taken [] none = refl
none_taken (t ∷ ts) none = absurd (cc)

pub none_dropped : (ts : List ℕ) → slice_get ts 0 ≡ None → drop 1 ts ≡ ts
none_dropped ts none = rw (none_taken ts none) refl

-- Where neither a writer ahead nor a reader is first, nobody is.
pub lined_empty : (ws rs vs : List ℕ) → slice_get ws 0 ≡ None → slice_get rs 0 ≡ None → (length rs ≡ 0 → length vs ≡ 0) → lined ws rs vs ≡ []
unfolding lined
lined_empty ws rs vs no-writer no_reader settled =
    let none = none_taken rs no_reader in
    let nobody = nil_from_length vs (settled (ap length none)) in
    rw (none_taken ws no-writer, none, nobody) refl

pub first_writer_lem : (t : ℕ) (ws rs vs : List ℕ) → slice_get ws 0 ≡ Some t → lined ws rs vs ≡ entry_of Write t ∷ lined (drop 1 ws) rs vs
unfolding lined
first_writer_lem t ws rs vs found = ap (λ l. lined l rs vs) (taken t ws found)

pub first_reader : (t : ℕ) (ws rs vs : List ℕ) → slice_get ws 0 ≡ None → slice_get rs 0 ≡ Some t → lined ws rs vs ≡ entry_of Read t ∷ lined ws (drop 1 rs) vs
unfolding lined
first_reader t ws rs vs none found = rw (none_taken ws none) (ap (λ l. lined [] l vs) (taken t rs found))

-- The writers behind stand where those ahead stood when nobody else is left.
pub lined_exchanged : (ws rs vs : List ℕ) → length ws ≡ 0 → length rs ≡ 0 → lined vs rs ws ≡ lined ws rs vs
unfolding lined
lined_exchanged ws rs vs none none' = rw (nil_from_length ws none, nil_from_length rs none') (append-nil (entries_as Write vs))

-- What taking the first leaves of the three.
pub ruleset taking = (first_writer_lem, first_reader, lined_empty, lined_exchanged, none_dropped, none_taken)

entry_at_as : (d : Direction) (n t : ℕ) (ts : List ℕ) → slice_get ts n ≡ Some t → entry_at n (entries_as d ts) ≡ Some (entry_of d t)
entry_at_as d n t [] found = absurd (cc)
entry_at_as d zero t (x ∷ ts) found = let same : x ≡ t = cc in ap (λ y. Some (entry_of d y)) same
entry_at_as d (suc n) t (x ∷ ts) found = entry_at_as d n t ts found

-- The entries of strips of tasks, each of one direction, one strip after the other.
abbrev pub sections : List (Bor Strip × Direction) → List Entry
sections [] = []
sections (s ∷ ss) = entries_as s.1 (tasks_of s.0.now) ++ sections ss

-- A place within the first strip, and one past it.
pub found_in : (d : Direction) (n t : ℕ) (ts : List ℕ) (es : List Entry) → slice_get ts n ≡ Some t → entry_at n (entries_as d ts ++ es) ≡ Some (entry_of d t)
found_in d n t ts es found =
    let within = slice_get_within ts n t found in
    entry_at_near n (entries_as d ts) es (simp length-map (omega arith)) ∙ entry_at_as d n t ts found

past_all : (n : ℕ) (ts : List ℕ) → slice_get ts n ≡ None → length ts ≤ n
past_all n ts none = let cases = slice_get_cases ts n in grind (arith, common_steps, gets)

pub past_first : (d : Direction) (n : ℕ) (ts : List ℕ) (es : List Entry) → slice_get ts n ≡ None → (length ts ≤ n) × (entry_at n (entries_as d ts ++ es) ≡ entry_at (n - length ts) es)
past_first d n ts es none =
    let past = past_all n ts none in
    (past, entry_at_far n (entries_as d ts) es (simp length-map past) ∙ ap (λ m. entry_at (n - m) es) (length-map ts (entry_of d)))

-- What is at a place from the strip i on, where that strip has a task at the place.
pub found_at : (items : List (Bor Strip × Direction)) (i n t : ℕ) (s d : Bor Strip × Direction) (r : Option Entry) → entry_at n (sections (drop i items)) ≡ r → i < length items → slice_get (tasks_of (get_or items i s).0.now) n ≡ Some t → Some (entry_of (get_or items i d).1 t) ≡ r
found_at items i n t s d r whole inside found =
    let item = get_or items i s in
    let first = ap (entry_at n) (at_drop_more sections items i s inside) ∙ found_in item.1 n t (tasks_of item.0.now) (sections (drop (i + 1) items)) found in
    ap (λ (x : Bor Strip × Direction). Some (entry_of x.1 t)) (get_or_default items i d s inside) ∙ sym first ∙ whole

-- What is at a place from the strip i on, where that strip ends before the place.
pub past_at : (items : List (Bor Strip × Direction)) (i n : ℕ) (s : Bor Strip × Direction) (r : Option Entry) → entry_at n (sections (drop i items)) ≡ r → i < length items → slice_get (tasks_of (get_or items i s).0.now) n ≡ None → (length (tasks_of (get_or items i s).0.now) ≤ n) × (entry_at (n - length (tasks_of (get_or items i s).0.now)) (sections (drop (i + 1) items)) ≡ r)
past_at items i n s r whole inside none =
    let item = get_or items i s in
    let past = past_first item.1 n (tasks_of item.0.now) (sections (drop (i + 1) items)) none in
    (past.0, sym past.1 ∙ sym (ap (entry_at n) (at_drop_more sections items i s inside)) ∙ whole)

pub sections_all : (ws rs vs : List ℕ) → entries_as Write ws ++ (entries_as Read rs ++ (entries_as Write vs ++ [])) ≡ lined ws rs vs
unfolding lined
sections_all ws rs vs = ap (λ es. entries_as Write ws ++ (entries_as Read rs ++ es)) (append-nil (entries_as Write vs))
