-- Totals and counts after one row has changed. Assumes nothing.
use Rattle.std.proofs.Common.{◌≡◌, ℕ, ◌+◌, ◌-◌, ◌%◌, ◌<◌, Bool, true, false, ◌&&◌, eqb, List, length, set, sym, refl, ap, ◌∙◌, inl, inr, arith}
use Rattle.std.proofs.lemmas.List.{length-set}
use Rattle.std.proofs.lemmas.Bool.{cases_eq, eq-eqb, ne_eqb}
use Rattle.std.proofs.lemmas.Bool.Decides.{nat_tests}
use Rattle.types.specs.declared.Direction.TheVariants.{Read}
use Rattle.word.specs.Words.{Sizes, Word, count, counted}
use Rattle.rules.specs.declared.Phase.{Phase}
use Rattle.rules.specs.declared.Row.{Row}
use Rattle.rules.specs.Steps.{group_of}
use Rattle.rules.specs.Runs.{Lawful}
use Rattle.rules.proofs.Tally.{bit}
use Rattle.rules.proofs.Rows.{phase_in, holds_to, total, reads_in, total_set}
use Rattle.rules.proofs.Counts.{Counted, group_below, count_here, count_there}

module _ (z : Sizes) (fine : Lawful z) (rows : List Row) (w : Word) (size : length rows ≡ 64) (wide : length w.counts ≡ z.groups) (agree : Counted z w rows) (t : ℕ) (small : t < 64) (row : Row) where
  pub within : t < length rows
  within = let n = size in omega arith

  pub change : (f : ℕ → Phase → Bool) → total f (set rows t row) + bit (f t (phase_in rows t)) ≡ total f rows + bit (f t row.phase)
  change f = total_set rows t row within f small

  -- a total that the change leaves
  pub stays : (f : ℕ → Phase → Bool) → f t (phase_in rows t) ≡ f t row.phase → total f rows ≡ total f (set rows t row)
  stays f same = let e = change f in let b : bit (f t (phase_in rows t)) ≡ bit (f t row.phase) = ap bit same in omega arith

  pub rises : (f : ℕ → Phase → Bool) → f t (phase_in rows t) ≡ false → f t row.phase ≡ true → total f rows + 1 ≡ total f (set rows t row)
  rises f off on = let e = change f in let a : bit (f t (phase_in rows t)) ≡ 0 = ap bit off in let b : bit (f t row.phase) ≡ 1 = ap bit on in omega arith

  pub falls : (f : ℕ → Phase → Bool) → f t (phase_in rows t) ≡ true → f t row.phase ≡ false → total f rows ≡ total f (set rows t row) + 1
  falls f on off = let e = change f in let a : bit (f t (phase_in rows t)) ≡ 1 = ap bit on in let b : bit (f t row.phase) ≡ 0 = ap bit off in omega arith

  pub size' : length (set rows t row) ≡ 64
  size' = length-set rows t row ∙ size

  pub group_in : (group_of z t) < length w.counts
  group_in = let n = wide in let h = group_below z fine w rows (wide) (agree) t in omega arith

  pub others : (g : ℕ) (p : Phase) → (g ≡ (group_of z t) → ⊥) → reads_in z g t p ≡ false
  others g p ne = let e = ne_eqb (t % z.groups) g (λ k. ne (sym k)) in grind (arith, nat_tests)

  pub here : (p : Phase) → reads_in z (group_of z t) t p ≡ holds_to Read p
  here p = let e = eq-eqb (t % z.groups) (t % z.groups) refl in grind (arith, nat_tests)

  pub agree_rise : holds_to Read (phase_in rows t) ≡ false → holds_to Read row.phase ≡ true → Counted z (counted (group_of z t) (count (group_of z t) w + 1) w) (set rows t row)
  agree_rise off on g h =
      elim (cases_eq g (group_of z t)) [
        | inl e ↦
            rw e (count_here w (group_of z t) (count (group_of z t) w + 1) group_in ∙ ap (λ n. n + 1) (agree (group_of z t) (rw e at h)) ∙ rises (reads_in z (group_of z t)) (here (phase_in rows t) ∙ off) (here row.phase ∙ on))
        | inr ne ↦ count_there w (group_of z t) (count (group_of z t) w + 1) group_in g ne ∙ agree g h ∙ stays (reads_in z g) (others g (phase_in rows t) ne ∙ sym (others g row.phase ne))
      ]

  pub agree_fall : holds_to Read (phase_in rows t) ≡ true → holds_to Read row.phase ≡ false → Counted z (counted (group_of z t) (count (group_of z t) w - 1) w) (set rows t row)
  agree_fall on off g h =
      elim (cases_eq g (group_of z t)) [
        | inl e ↦
            let less = falls (reads_in z (group_of z t)) (here (phase_in rows t) ∙ on) (here row.phase ∙ off) in
            let was = agree (group_of z t) (rw e at h) in
            let now' : count (group_of z t) (counted (group_of z t) (count (group_of z t) w - 1) w) ≡ count (group_of z t) w - 1 = count_here w (group_of z t) (count (group_of z t) w - 1) group_in in
            let sum : count (group_of z t) w - 1 ≡ total (reads_in z (group_of z t)) (set rows t row) = omega arith in
            rw e (now' ∙ sum)
        | inr ne ↦ count_there w (group_of z t) (count (group_of z t) w - 1) group_in g ne ∙ agree g h ∙ stays (reads_in z g) (others g (phase_in rows t) ne ∙ sym (others g row.phase ne))
      ]

  pub agree_same : holds_to Read (phase_in rows t) ≡ holds_to Read row.phase → Counted z w (set rows t row)
  agree_same same g h = agree g h ∙ stays (reads_in z g) (ap (λ b. eqb (t % z.groups) g && b) same)
