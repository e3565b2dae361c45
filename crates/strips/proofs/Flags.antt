-- The flags still tell which tasks are in the queue after a join and after a take. Assumes nothing.
use Rattle.std.proofs.Common.{◌≡◌, ℕ, ◌<◌, Bool, true, false, not, ◌||◌, eqb, ltb, List, [], ◌∷◌, length, get_or, set, replicate, sym, ap, ◌∙◌, ⊎_elim, arith}
use Rattle.std.proofs.lemmas.List.{get_or-replicate, get_or-set_same, get_or-set_other}
use Rattle.std.proofs.lemmas.Bool.{cases_eq, eq-eqb, ne_eqb, lt-ltb, or_left, and_parts, and_from, not-true, not_from_false}
use Rattle.types.specs.declared.Direction.{Direction}
use Rattle.types.specs.declared.Entry.{Entry}
use Rattle.queue.specs.Queues.{has_task, no_task_twice, can_join, placed}
use Rattle.queue.proofs.Laws.{Lawful}
use Rattle.queue.proofs.Members.{placed_has}
use Rattle.strips.specs.declared.Strips.{Strips}
use Rattle.strips.specs.Entries.{entries_of, Flagged}

pub lawful : (q : Strips) → Lawful (entries_of q.parts)
lawful q = record { in_range = q.in_range; none_twice = q.none_twice; neighbours = q.neighbours }

-- A task below 64 whose flag is off may join.
pub may_join : (q : Strips) (task : ℕ) → task < 64 → get_or q.present task false ≡ false → can_join task (entries_of q.parts) ≡ true
may_join q task small off =
    let absent = sym (q.flagged task small) ∙ off in
    and_from (ltb task 64) (not (has_task task (entries_of q.parts))) (lt-ltb task 64 small) (not_from_false (has_task task (entries_of q.parts)) absent)

pub flagged_none : Flagged (replicate 64 false) []
flagged_none t small = get_or-replicate 64 t false false small

pub flagged_placed : (flags : List Bool) (task : ℕ) (d : Direction) (es : List Entry) → length flags ≡ 64 → task < 64 → Flagged flags es → Flagged (set flags task true) (placed task d es)
flagged_placed flags task d es full small told t inside =
    let has = placed_has t task d es in
    ⊎_elim
    (λ same. let within : t < length flags = omega arith in
    ap (λ i. get_or (set flags i true) t false) (sym same) ∙ get_or-set_same flags t true false within ∙ sym (has ∙ or_left (eqb task t) (has_task t es) (eq-eqb task t (sym same))))
    (λ other. get_or-set_other flags task t true false other ∙ told t inside ∙ sym (has ∙ ap (λ b. b || has_task t es) (ne_eqb task t (λ e. other (sym e)))))
    (cases_eq t task)

pub flagged_rest : (flags : List Bool) (e : Entry) (es : List Entry) → length flags ≡ 64 → no_task_twice (e ∷ es) ≡ true → Flagged flags (e ∷ es) → Flagged (set flags e.task false) es
flagged_rest flags e es full apart told t inside =
    let once = not-true (has_task e.task es) (and_parts (not (has_task e.task es)) (no_task_twice es) apart).0 in
    ⊎_elim
    (λ same. let within : t < length flags = omega arith in
    ap (λ i. get_or (set flags i false) t false) (sym same) ∙ get_or-set_same flags t false false within ∙ sym (ap (λ i. has_task i es) same ∙ once))
    (λ other. get_or-set_other flags e.task t false false other ∙ told t inside ∙ ap (λ b. b || has_task t es) (ne_eqb e.task t (λ e'. other (sym e'))))
    (cases_eq t e.task)
