-- The readers that are taken in a pass are admitted one by one. Assumes nothing.
use Rattle.std.proofs.Common.{◌≡◌, ℕ, ◌+◌, ◌<◌, true, false, not, eqb, List, [], ◌∷◌, length, get_or, set, sym, refl, ap, ◌∙◌, subst, inl, inr, arith}
use Rattle.std.proofs.lemmas.Bool.{cases_eq, eq-eqb, ne_eqb, and_parts, or_parts, cond-true, lt-ltb, true≢false, not-true}
use Rattle.std.proofs.lemmas.Bool.Decides.{nat_tests}
use Rattle.types.specs.declared.Direction.{Direction}
use Rattle.types.specs.declared.Direction.TheVariants.{Read, Write}
use Rattle.types.specs.declared.Entry.{Entry}
use Rattle.word.specs.Words.{Sizes, Word, count, counted, can_admit_reader, admit_reader}
use Rattle.queue.specs.Queues.{has_task, no_task_twice}
use Rattle.rules.specs.declared.Phase.TheVariants.{Queued, Holding}
use Rattle.rules.specs.declared.Row.{Row}
use Rattle.rules.specs.Locks.{Lock, out_row}
use Rattle.rules.specs.Steps.{group_of, admitted, holding_all}
use Rattle.rules.specs.Runs.{Lawful}
use Rattle.rules.proofs.Rows.{phase_in, is_same_way, holds_to, owes, total, reads, writes, owing, phase_here, phase_there}
use Rattle.rules.proofs.Counts.{Counted, below_limit, group_below, count_wide}
use Rattle.rules.proofs.Change
use Rattle.rules.proofs.Went.{all_to}

-- The rows where each of the tasks holds.
abbrev pub holding_rows : List Entry → List Row → List Row
holding_rows [] rows = rows
holding_rows (e ∷ es) rows = holding_rows es (set rows e.task (record { phase = Holding e.direction; attempts = (get_or rows e.task out_row).attempts }))

pub holding_all_lem : (es : List Entry) (l : Lock) → holding_all es l ≡ record { tasks = l.tasks; spin = l.spin; rows = holding_rows es l.rows; word = l.word; queue = l.queue }
holding_all_lem [] l = refl
holding_all_lem (e ∷ es) l = holding_all_lem es _

way_read : (d : Direction) → is_same_way Read d ≡ true → d ≡ Read
way_read Read h = refl
way_read Write h = absurd (true≢false (sym h))

pub record Admitted (z : Sizes) (ts : List Entry) (rows rows' : List Row) (w w' : Word) : Type 0 where
  pub size : length rows' ≡ 64
  pub wide : length w'.counts ≡ z.groups
  pub agree : Counted z w' rows'
  pub locked_stays : w'.locked ≡ w.locked
  pub writers_stay : w'.writers_wait ≡ w.writers_wait
  pub readers_stay : w'.readers_wait ≡ w.readers_wait
  pub writing : total writes rows' ≡ total writes rows
  pub owed : total owing rows' ≡ total owing rows
  pub reading : total reads rows' ≡ total reads rows + length ts
  pub taken : (x : ℕ) → has_task x ts ≡ true → phase_in rows' x ≡ Holding Read
  pub left : (x : ℕ) → has_task x ts ≡ false → phase_in rows' x ≡ phase_in rows x

module _ (z : Sizes) (fine : Lawful z) where
  pub admit_all : (ts : List Entry) (rows : List Row) (w : Word) → length rows ≡ 64 → length w.counts ≡ z.groups → Counted z w rows → w.locked ≡ false
      → ((x : ℕ) → has_task x ts ≡ true → (x < 64) × (phase_in rows x ≡ Queued Read)) → no_task_twice ts ≡ true → all_to Read ts ≡ true → Admitted z ts rows (holding_rows ts rows) w (admitted z ts w)
  admit_all [] rows w size wide agree unlocked ready once all = record {
    size = size;
    wide = wide;
    agree = agree;
    locked_stays = refl;
    writers_stay = refl;
    readers_stay = refl;
    writing = refl;
    owed = refl;
    reading = omega arith;
    taken = λ x h. absurd (true≢false (sym h));
    left = λ x h. refl;
  }
  admit_all (e ∷ ts) rows w size wide agree unlocked ready once all =
      let y = e.task in
      let g = group_of z y in
      let self : has_task y (e ∷ ts) ≡ true = (let q = eq-eqb y y refl in grind (arith, nat_tests)) in
      let small : y < 64 = (ready y self).0 in
      let was : phase_in rows y ≡ Queued Read = (ready y self).1 in
      let row : Row = record { phase = Holding e.direction; attempts = (get_or rows y out_row).attempts } in
      let way = and_parts (is_same_way Read e.direction) (all_to Read ts) all in
      let twice = and_parts (not (has_task y ts)) (no_task_twice ts) once in
      let absent = not-true (has_task y ts) twice.0 in
      let within : y < length rows = Change.within z fine rows w size wide agree y small row in
      let room = lt-ltb (count g w) z.limit (below_limit z fine w rows wide agree y small (ap (holds_to Read) was)) in
      let low = lt-ltb g z.groups (group_below z fine w rows wide agree y) in
      let can : can_admit_reader z g w ≡ true = grind (arith, nat_tests) in
      let w₁ : Word = counted g (count g w + 1) w in
      let rows₁ : List Row = set rows y row in
      let is : admit_reader z g w ≡ w₁ = cond-true (can_admit_reader z g w) w₁ w can in
      let here = phase_here rows y row within in
      let ih = admit_all ts rows₁ w₁ (Change.size' z fine rows w size wide agree y small row) (count_wide w g (count g w + 1) (Change.group_in z fine rows w size wide agree y small row) ∙ wide)
      (Change.agree_rise z fine rows w size wide agree y small row (ap (holds_to Read) was) way.0) unlocked
      (λ x h.
      let apart : x ≡ y → ⊥ = λ q. true≢false (sym h ∙ ap (λ k. has_task k ts) q ∙ absent) in
      let old = ready x (let b = h in grind (arith, nat_tests)) in
      (old.0, phase_there rows y row within x apart ∙ old.1))
      twice.1 way.1 in
      let result : Admitted z (e ∷ ts) rows (holding_rows (e ∷ ts) rows) w (admitted z ts w₁) = record {
        size = ih.size;
        wide = ih.wide;
        agree = ih.agree;
        locked_stays = ih.locked_stays;
        writers_stay = ih.writers_stay;
        readers_stay = ih.readers_stay;
        writing = ih.writing ∙ sym (Change.stays z fine rows w size wide agree y small row writes (ap (holds_to Write) was ∙ sym (ap (λ d. holds_to Write (Holding d)) (way_read e.direction way.0))));
        owed = ih.owed ∙ sym (Change.stays z fine rows w size wide agree y small row owing (ap owes was));
        reading = (let up = Change.rises z fine rows w size wide agree y small row reads (ap (holds_to Read) was) way.0 in let more = ih.reading in omega arith);
        taken = λ x h.
            elim (cases_eq x y) [
              | inl q ↦ ap (phase_in (holding_rows ts rows₁)) q ∙ ih.left y absent ∙ here ∙ ap Holding (way_read e.direction way.0)
              | inr ne ↦ ih.taken x (let d = ne_eqb y x (λ k. ne (sym k)) in grind (arith, nat_tests))
            ];
        left = λ x h.
            let parts = or_parts (eqb y x) (has_task x ts) h in
            let apart : x ≡ y → ⊥ = λ q. true≢false (sym (eq-eqb y x (sym q)) ∙ parts.0) in
            ih.left x parts.1 ∙ phase_there rows y row within x apart;
      } in
      subst (λ v. Admitted z (e ∷ ts) rows (holding_rows (e ∷ ts) rows) w (admitted z ts v)) (sym is) result
