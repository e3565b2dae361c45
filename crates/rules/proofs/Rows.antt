-- Phases and totals after one row has changed. Assumes nothing.
use Rattle.std.proofs.Common.{◌≡◌, ℕ, ◌+◌, ◌%◌, ◌<◌, Bool, true, false, cond, ◌&&◌, eqb, List, length, get_or, set, replicate, sym, ap, ◌∙◌, inl, inr, arith}
use Rattle.std.proofs.lemmas.List.{get_or-set_same, get_or-set_other, get_or-replicate, get_or_past, length-replicate}
use Rattle.std.proofs.lemmas.Bool.{cases_eq, eq-eqb, ne_eqb, cases_lt}
use Rattle.types.specs.declared.Direction.{Direction}
use Rattle.types.specs.declared.Direction.TheVariants.{Read, Write}
use Rattle.word.specs.Words.{Sizes}
use Rattle.rules.specs.declared.Phase.{Phase}
use Rattle.rules.specs.declared.Phase.TheVariants.{Out, Claiming, AtQueueLock, Queueing, Queued, Holding, Owing, Passing}
use Rattle.rules.specs.declared.Row.{Row}
use Rattle.rules.specs.Locks.{out_row}
use Rattle.rules.proofs.Tally.{bit, tally, tally_one, none_tally}

abbrev pub phase_in : List Row → ℕ → Phase
phase_in rows x = (get_or rows x out_row).phase

abbrev pub is_same_way : Direction → Direction → Bool
is_same_way Read Read = true
is_same_way Read Write = false
is_same_way Write Read = false
is_same_way Write Write = true

abbrev pub holds_to : Direction → Phase → Bool
holds_to d Out = false
holds_to d (Claiming d') = false
holds_to d (AtQueueLock d') = false
holds_to d (Queueing d') = false
holds_to d (Queued d') = false
holds_to d (Holding d') = is_same_way d d'
holds_to d Owing = false
holds_to d Passing = false

abbrev pub queued_to : Direction → Phase → Bool
queued_to d Out = false
queued_to d (Claiming d') = false
queued_to d (AtQueueLock d') = false
queued_to d (Queueing d') = false
queued_to d (Queued d') = is_same_way d d'
queued_to d (Holding d') = false
queued_to d Owing = false
queued_to d Passing = false

abbrev pub owes : Phase → Bool
owes Out = false
owes (Claiming d) = false
owes (AtQueueLock d) = false
owes (Queueing d) = false
owes (Queued d) = false
owes (Holding d) = false
owes Owing = true
owes Passing = true

-- How many tasks pass a test of their number and phase.
abbrev pub total : (ℕ → Phase → Bool) → List Row → ℕ
total f rows = tally (λ x. f x (phase_in rows x)) 64

abbrev pub reads : ℕ → Phase → Bool
reads x p = holds_to Read p

abbrev pub writes : ℕ → Phase → Bool
writes x p = holds_to Write p

abbrev pub owing : ℕ → Phase → Bool
owing x p = owes p

abbrev pub reads_in : Sizes → ℕ → ℕ → Phase → Bool
reads_in z g x p = eqb (x % z.groups) g && holds_to Read p

module _ (rows : List Row) (t : ℕ) (row : Row) (within : t < length rows) where
  pub phase_here : phase_in (set rows t row) t ≡ row.phase
  phase_here = ap (λ r. r.phase) (get_or-set_same rows t row out_row within)

  pub phase_there : (x : ℕ) → (x ≡ t → ⊥) → phase_in (set rows t row) x ≡ phase_in rows x
  phase_there x ne = ap (λ r. r.phase) (get_or-set_other rows t x row out_row ne)

  pub phase_set : (x : ℕ) → phase_in (set rows t row) x ≡ cond (eqb x t) row.phase (phase_in rows x)
  phase_set x =
      elim (cases_eq x t) [
        | inl e ↦ rw (eq-eqb x t e) (ap (phase_in (set rows t row)) e ∙ phase_here)
        | inr ne ↦ rw (ne_eqb x t ne) (phase_there x ne)
      ]

  pub total_set : (f : ℕ → Phase → Bool) → t < 64 → total f (set rows t row) + bit (f t (phase_in rows t)) ≡ total f rows + bit (f t row.phase)
  total_set f small =
      let here : bit (f t (phase_in (set rows t row) t)) ≡ bit (f t row.phase) = ap (λ p. bit (f t p)) phase_here in
      let moved = tally_one (λ x. f x (phase_in rows x)) (λ x. f x (phase_in (set rows t row) x)) t 64 small (λ x ne. sym (ap (f x) (phase_there x ne))) in
      moved ∙ ap (λ n. total f rows + n) here

-- all tasks out
pub phase_fresh : (n x : ℕ) → phase_in (replicate n out_row) x ≡ Out
phase_fresh n x =
    elim (cases_lt x n) [
      | inl h ↦ ap (λ r. r.phase) (get_or-replicate n x out_row out_row h)
      | inr h ↦ ap (λ r. r.phase) (get_or_past (replicate n out_row) x out_row (let e = length-replicate n out_row in omega arith))
    ]

pub total_fresh : (f : ℕ → Phase → Bool) (n : ℕ) → ((x : ℕ) → f x Out ≡ false) → total f (replicate n out_row) ≡ 0
total_fresh f n none = none_tally (λ x. f x (phase_in (replicate n out_row) x)) 64 (λ x h. ap (f x) (phase_fresh n x) ∙ none x)
