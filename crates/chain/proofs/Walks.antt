-- What writes to the places do to the walk. Assumes nothing.
use Rattle.std.proofs.Common.{◌≡◌, ℕ, zero, suc, ◌-◌, ◌<◌, true, false, cond, not, eqb, ltb, List, ◌∷◌, length, set, sym, refl, ap, ◌∙◌, inl, inr, arith}
use Rattle.std.proofs.lemmas.Bool.{or_parts, or_left, or_right, cond_both, and_parts, not-true, eq-eqb, ne_eqb, eqb-true, eqb-false, ltb-true, cases_eq}
use Rattle.std.proofs.lemmas.List.{get_or-set_same, get_or-set_other, length-set}
use Rattle.std.proofs.lemmas.Bool.Decides.{nat_tests}
use Rattle.types.specs.declared.Direction.{Direction}
use Rattle.queue.specs.Queues.{has_task, tasks_in_range, no_task_twice, entry_at}
use Rattle.chain.specs.declared.places.Place.{Place}
use Rattle.chain.specs.Walks.{entry_of, place_at, walk, last_task, behind_task}
use Rattle.chain.proofs.Entries.{apart}

pub walk_length : (places : List Place) (n task : ℕ) → length (walk places n task) ≡ n
walk_length places zero task = refl
walk_length places (suc n) task = ap suc (walk_length places n (place_at places task).next)

-- places that agree on the tasks of a walk have the same walk
pub walk_same : (ps ps' : List Place) (n p : ℕ) → ((t : ℕ) → has_task t (walk ps n p) ≡ true → place_at ps' t ≡ place_at ps t) → walk ps' n p ≡ walk ps n p
walk_same ps ps' zero p agree = refl
walk_same ps ps' (suc n) p agree =
    let es = walk ps n (place_at ps p).next in
    let here = agree p (or_left (eqb p p) (has_task p es) (eq-eqb p p refl)) in
    let ih = walk_same ps ps' n (place_at ps p).next (λ t there. agree t (or_right (eqb p t) (has_task t es) there)) in
    rw here (ap (λ l. entry_of p (place_at ps p).direction ∷ l) ih)

-- The places after a new one is put behind that of the task q: q leads to the new place, and it to where q led.
pub record Leads (ps ps' : List Place) (q new : ℕ) (d : Direction) : Type 0 where
  pub leads : (place_at ps' q).next ≡ new
  pub keeps : (place_at ps' q).direction ≡ (place_at ps q).direction
  pub goes_on : (place_at ps' new).next ≡ (place_at ps q).next
  pub faces : (place_at ps' new).direction ≡ d
  pub others : (t : ℕ) → eqb t q ≡ false → eqb t new ≡ false → place_at ps' t ≡ place_at ps t

module _ (ps ps' : List Place) (q new : ℕ) (d : Direction) (linked : Leads ps ps' q new d) where
  rest_same : (n p : ℕ) → has_task q (walk ps n p) ≡ false → has_task new (walk ps n p) ≡ false → walk ps' n p ≡ walk ps n p
  rest_same n p no-q no-new = walk_same ps ps' n p (λ t there. linked.others t (flip t q there no-q) (flip t new there no-new))
    where
      flip : (t u : ℕ) → has_task t (walk ps n p) ≡ true → has_task u (walk ps n p) ≡ false → eqb t u ≡ false
      flip t u there absent = let e = apart u t (walk ps n p) absent there in grind (arith, nat_tests)

  pub walk_behind : (n p : ℕ) → no_task_twice (walk ps n p) ≡ true → has_task q (walk ps n p) ≡ true → has_task new (walk ps n p) ≡ false → walk ps' (suc n) p ≡ behind_task q (entry_of new d) (walk ps n p)
  walk_behind zero p once there absent = grind (arith, nat_tests)
  walk_behind (suc n) p once there absent =
      let es = walk ps n (place_at ps p).next in
      let parts = and_parts (not (has_task p es)) (no_task_twice es) once in
      let no-p = not-true (has_task p es) parts.0 in
      let no-new = or_parts (eqb p new) (has_task new es) absent in
      cond_both (eqb p q) (entry_of p (place_at ps p).direction ∷ entry_of new d ∷ es) (entry_of p (place_at ps p).direction ∷ behind_task q (entry_of new d) es) (λ l. walk ps' (suc (suc n)) p ≡ l)
      (λ same.
      let e = eqb-true p q same in
      let no-q : has_task q es ≡ false = rw (← e) no-p in
      let rest = rest_same n (place_at ps p).next no-q no-new.1 in
      let leads = linked.leads in
      let keeps = linked.keeps in
      let goes_on = linked.goes_on in
      let faces = linked.faces in
      cc)
      (λ other.
      let ih : has_task q es ≡ true → walk ps' (suc n) (place_at ps p).next ≡ behind_task q (entry_of new d) es = λ h. walk_behind n (place_at ps p).next parts.1 h no-new.1 in
      let here = linked.others p other no-new.0 in
      let found : has_task q es ≡ true = grind (arith, nat_tests) in
      rw here (ap (λ l. entry_of p (place_at ps p).direction ∷ l) (ih found)))

-- a walk of some steps, by its first
pub walk_first : (ps : List Place) (n p : ℕ) → 0 < n → walk ps n p ≡ entry_of p (place_at ps p).direction ∷ walk ps (n - 1) (place_at ps p).next
walk_first ps zero p some = absurd (omega arith)
walk_first ps (suc n) p some = let e : suc n - 1 ≡ n = omega arith in rw e refl

-- the first place of a walk of some steps is one of the 64
pub head_small : (ps : List Place) (n p : ℕ) → 0 < n → tasks_in_range (walk ps n p) ≡ true → p < 64
head_small ps n p some fine =
    let es = walk ps (n - 1) (place_at ps p).next in
    ltb-true p 64 (and_parts (ltb p 64) (tasks_in_range es) (rw (walk_first ps n p some) at fine)).0

-- a step along the walk
pub rest_small : (ps : List Place) (n p : ℕ) → 0 < n → tasks_in_range (walk ps n p) ≡ true → tasks_in_range (walk ps (n - 1) (place_at ps p).next) ≡ true
rest_small ps n p some fine =
    let es = walk ps (n - 1) (place_at ps p).next in
    (and_parts (ltb p 64) (tasks_in_range es) (rw (walk_first ps n p some) at fine)).1

pub step_at : (ps : List Place) (n p k : ℕ) → 0 < n → 0 < k → entry_at k (walk ps n p) ≡ entry_at (k - 1) (walk ps (n - 1) (place_at ps p).next)
step_at ps n p zero some more = absurd (omega arith)
step_at ps n p (suc k) some more = let e : suc k - 1 ≡ k = omega arith in rw (e, walk_first ps n p some) refl

-- the last entry of a walk, as a walk of one step
pub walk_last : (ps : List Place) (n p : ℕ) → entry_at 0 (walk ps 1 (last_task (walk ps (suc n) p))) ≡ entry_at n (walk ps (suc n) p)
walk_last ps zero p = refl
walk_last ps (suc n) p = walk_last ps n (place_at ps p).next

pub last_small : (ps : List Place) (n p : ℕ) → tasks_in_range (walk ps (suc n) p) ≡ true → tasks_in_range (walk ps 1 (last_task (walk ps (suc n) p))) ≡ true
last_small ps zero p fine = fine
last_small ps (suc n) p fine =
    let next = (place_at ps p).next in
    last_small ps n next (and_parts (ltb p 64) (tasks_in_range (walk ps (suc n) next)) fine).1

-- the flag of a place after a write
pub flag_set : (ps : List Place) (k : ℕ) (x : Place) (t : ℕ) → k < length ps → (place_at (set ps k x) t).present ≡ cond (eqb k t) x.present (place_at ps t).present
flag_set ps k x t inside =
    elim (cases_eq k t) [
      | inl e ↦ rw (← e, get_or-set_same ps k x _ inside, eq-eqb k k refl) refl
      | inr ne ↦ rw (get_or-set_other ps k t x _ (λ e. ne (sym e)), ne_eqb k t ne) refl
    ]

-- a write to a place that is not on the walk leaves the walk
pub walk_other : (ps : List Place) (k : ℕ) (x : Place) (n p : ℕ) → has_task k (walk ps n p) ≡ false → walk (set ps k x) n p ≡ walk ps n p
walk_other ps k x n p absent =
    walk_same ps (set ps k x) n p (λ t there. get_or-set_other ps k t x _ (λ e. eqb-false k t (apart k t (walk ps n p) absent there) (sym e)))

pub leads_set : (ps : List Place) (q new : ℕ) (d : Direction) (x y : Place) → q < length ps → new < length ps → eqb q new ≡ false → x.next ≡ (place_at ps q).next → x.direction ≡ d → y.next ≡ new → y.direction ≡ (place_at ps q).direction → Leads ps (set (set ps new x) q y) q new d
leads_set ps q new d x y q-in new_in other goes faces leads keeps =
    let ps₁ = set ps new x in
    let q-in₁ : q < length ps₁ = simp length-set q-in in
    let at-q : place_at (set ps₁ q y) q ≡ y = get_or-set_same ps₁ q y _ q-in₁ in
    let at_new : place_at (set ps₁ q y) new ≡ x = get_or-set_other ps₁ q new y _ (λ e. eqb-false q new other (sym e)) ∙ get_or-set_same ps new x _ new_in in
    record {
      leads = rw at-q leads;
      keeps = rw at-q keeps;
      goes_on = rw at_new goes;
      faces = rw at_new faces;
      others = λ t no-q no-new. get_or-set_other ps₁ q t y _ (eqb-false t q no-q) ∙ get_or-set_other ps new t x _ (eqb-false t new no-new);
    }
