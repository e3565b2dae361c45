-- What a join and a departure leave of the links. Assumes nothing.
use Rattle.std.proofs.Common.{◌≡◌, ℕ, ◌+◌, ◌-◌, ◌<◌, ◌≤◌, true, false, cond, not, eqb, ltb, List, [], ◌∷◌, length, set, sym, refl, ap, ◌∙◌, add-one, arith}
use Rattle.std.proofs.lemmas.Bool.{and_parts, not-true, ltb-true, eqb-false}
use Rattle.std.proofs.lemmas.List.{get_or-set_same, get_or-set_other, length-set}
use Rattle.std.proofs.lemmas.Bool.Decides.{nat_tests}
use Rattle.types.specs.declared.Direction.{Direction}
use Rattle.types.specs.declared.Direction.TheVariants.{Read, Write}
use Rattle.types.specs.declared.Entry.{Entry}
use Rattle.queue.specs.Queues.{is_reader, reader_count, has_task, tasks_in_range, no_task_twice, can_join, placed, rest}
use Rattle.queue.proofs.Readers.{reader_all, reader_placed as count-placed}
use Rattle.queue.proofs.Sizes.{room_to_join}
use Rattle.chain.specs.declared.places.Place.{Place}
use Rattle.chain.specs.declared.places.Links.{Links}
use Rattle.chain.specs.Walks.{Laws, Agrees, Linkable, Linked, remembered, held, walk, place_at, entry_of, last_task, last_reader_of, readers_in, goes_behind}
use Rattle.chain.proofs.Entries.{apart, small, behind_there, behind_has, placed_behind, last_placed, reader_placed, last_rest, reader_rest}
use Rattle.chain.proofs.Walks.{walk_first, walk_other, walk_behind, flag_set, leads_set, walk_length}

reads_one : (t : ℕ) (d : Direction) → cond (is_reader (entry_of t d)) 1 0 ≡ readers_in d
reads_one t Read = refl
reads_one t Write = refl

-- The first place leaves.
module _ (l : Links) (laws : Laws (held l)) (agrees : Agrees l) (some : 0 < l.len) (inside : l.head < 64) where
  abbrev ahead : List Entry
  ahead = walk l.places (l.len - 1) (place_at l.places l.head).next

  abbrev front : Entry
  front = entry_of l.head (place_at l.places l.head).direction

  begins : held l ≡ front ∷ ahead
  begins = walk_first l.places l.len l.head some

  once : no_task_twice (front ∷ ahead) ≡ true
  once = rw begins at laws.1

  gone : has_task l.head ahead ≡ false
  gone = not-true (has_task l.head ahead) (and_parts (not (has_task l.head ahead)) (no_task_twice ahead) once).0

  pub dropped_queue : (x : Place) → walk (set l.places l.head x) (l.len - 1) (place_at l.places l.head).next ≡ rest (held l)
  dropped_queue x = walk_other l.places l.head x (l.len - 1) (place_at l.places l.head).next gone ∙ sym (ap rest begins)

  pub dropped_flags : (x : Place) → x.present ≡ false → (t : ℕ) → t < 64 → (place_at (set l.places l.head x) t).present ≡ has_task t (rest (held l))
  dropped_flags x off t small =
      let was : (place_at l.places t).present ≡ has_task t (front ∷ ahead) = agrees.1 t small ∙ ap (has_task t) begins in
      let now-is = flag_set l.places l.head x t (rw agrees.0 inside) in
      let left = gone in
      let after = ap (λ es. has_task t (rest es)) begins in
      grind (arith, nat_tests)

  pub dropped_tail : last_task (rest (held l)) ≡ cond (eqb l.tail l.head) 64 l.tail
  dropped_tail = rw (agrees.2, begins) (last_rest front ahead once)

  pub dropped_reader : last_reader_of (rest (held l)) ≡ cond (eqb l.last_reader l.head) 64 l.last_reader
  dropped_reader = rw (agrees.3, begins) (reader_rest front ahead once)

  counted : l.readers ≡ readers_in front.direction + reader_count ahead
  counted = agrees.4 ∙ ap reader_count begins ∙ ap (λ n. n + reader_count ahead) (reads_one l.head front.direction)

  pub dropped_some : readers_in (place_at l.places l.head).direction ≤ l.readers
  dropped_some = omega (arith, counted)

  pub dropped_count : reader_count (rest (held l)) ≡ l.readers - readers_in (place_at l.places l.head).direction
  dropped_count = omega (arith, counted, ap (λ es. reader_count (rest es)) begins)

-- A new place is put in.
module _ (l : Links) (behind task : ℕ) (d : Direction) (fine : Linkable l behind task) where
  inside : task < length l.places
  inside = rw fine.full (ltb-true task 64 (and_parts (ltb task 64) (not (has_task task (held l))) fine.can).0)

  absent : has_task task (held l) ≡ false
  absent = not-true (has_task task (held l)) (and_parts (ltb task 64) (not (has_task task (held l))) fine.can).1

  pub linked_first : (x : Place) → x.direction ≡ d → x.present ≡ true → l.len ≡ 0 → Linked l (record { places = set l.places task x; head = task; tail = l.tail; last_reader = l.last_reader; readers = l.readers; len = l.len + 1 }) behind task d
  linked_first x faces on none =
      record {
        queue = rw (none, get_or-set_same l.places task x _ inside, faces) refl;
        flags = λ k. let now-is = flag_set l.places task x k inside in grind (arith, nat_tests);
        full = length-set l.places task x ∙ fine.full;
        tail = refl;
        reader = refl;
        count = refl;
      }

  pub linked_behind : 0 < l.len → (x y : Place) → x.next ≡ (place_at l.places behind).next → x.direction ≡ d → x.present ≡ true → y.next ≡ task → y.direction ≡ (place_at (set l.places task x) behind).direction → y.present ≡ (place_at (set l.places task x) behind).present → Linked l (record { places = set (set l.places task x) behind y; head = l.head; tail = l.tail; last_reader = l.last_reader; readers = l.readers; len = l.len + 1 }) behind task d
  linked_behind some x y goes faces on leads keeps same =
      let ps = l.places in
      let ps₁ = set ps task x in
      let there = (fine.known some).1 in
      let behind-in : behind < length ps = rw fine.full (fine.known some).0 in
      let behind-in₁ : behind < length ps₁ = simp length-set behind-in in
      let other : eqb task behind ≡ false = apart task behind (held l) absent there in
      let apart-too : eqb behind task ≡ false = grind (arith, nat_tests) in
      let before = get_or-set_other ps task behind x _ (eqb-false behind task apart-too) in
      let chain = leads_set ps behind task d x y behind-in inside apart-too goes faces leads (keeps ∙ ap (λ (p : Place). p.direction) before) in
      record {
        queue = rw add-one (walk_behind ps (set ps₁ behind y) behind task d chain l.len l.head fine.once there absent);
        flags = λ k.
            let first = flag_set ps task x k inside in
            let second = flag_set ps₁ behind y k behind-in₁ in
            let at_behind = flag_set ps task x behind inside in
            grind (arith, nat_tests);
        full = length-set ps₁ behind y ∙ (length-set ps task x ∙ fine.full);
        tail = refl;
        reader = refl;
        count = refl;
      }

-- A task joins behind the task that its direction asks for.
module _ (l : Links) (task : ℕ) (d : Direction) (laws : Laws (held l)) (agrees : Agrees l) (can : can_join task (held l) ≡ true) where
  abbrev goes : ℕ
  goes = goes_behind d (held l)

  size : length (held l) ≡ l.len
  size = walk_length l.places l.len l.head

  there : (es : List Entry) → tasks_in_range es ≡ true → 0 < length es → has_task (goes_behind d es) es ≡ true
  there [] fine some = absurd (omega arith)
  there (e ∷ es) fine some = behind_there d e es fine

  pub countable : l.readers < 64
  countable = omega (arith, agrees.4, reader_all (held l), room_to_join task (held l) laws.0 laws.1 can)

  pub joinable : Linkable (remembered goes task d l) goes task
  joinable =
      record {
        full = agrees.0;
        once = laws.1;
        can = can;
        room = rw size at (room_to_join task (held l) laws.0 laws.1 can);
        known = λ some. let found = there (held l) laws.0 (rw size some) in (small goes (held l) laws.0 found, found);
      }

  module _ (after : Links) (linked : Linked (remembered goes task d l) after goes task d) where
    pub joined_queue : held after ≡ placed task d (held l)
    joined_queue = linked.queue ∙ sym (placed_behind task d (held l) laws.0 laws.1)

    joined_count : after.readers ≡ reader_count (held after)
    joined_count =
        omega (arith, linked.count, agrees.4, ap reader_count joined_queue, count-placed task d (held l), reads_one task d)

    pub joined_agrees : Agrees after
    joined_agrees = (
      linked.full,
      (λ t inside. linked.flags t ∙ (rw (agrees.1 t inside) (sym (behind_has t goes (entry_of task d) (held l)))) ∙ sym (ap (has_task t) linked.queue)),
      linked.tail ∙ (rw agrees.2 (sym (ap last_task linked.queue ∙ last_placed d (entry_of task d) (held l) laws.0 laws.1))),
      linked.reader ∙ (rw agrees.3 (sym (ap last_reader_of joined_queue ∙ reader_placed task d (held l)))),
      joined_count,
    )
