-- The counts of a word against the tasks that hold to read. Assumes nothing.
use Rattle.std.proofs.Common.{◌≡◌, ℕ, zero, suc, ◌%◌, ◌<◌, true, false, ◌&&◌, eqb, List, [], ◌∷◌, length, get_or, sym, refl, ap, ◌∙◌, arith}
use Rattle.std.proofs.lemmas.List.{get_or-set_same, get_or-set_other, length-set}
use Rattle.std.proofs.lemmas.Bool.{eq-eqb, eqb-true, and_parts, and_from}
use Rattle.std.proofs.lemmas.Nat.{mod_below}
use Rattle.std.proofs.lemmas.Bool.Decides.{nat_tests}
use Rattle.types.specs.declared.Direction.TheVariants.{Read}
use Rattle.word.specs.Words.{Sizes, Word, count, counted, all_zero}
use Rattle.rules.specs.declared.Row.{Row}
use Rattle.rules.specs.Runs.{Lawful}
use Rattle.rules.proofs.Tally.{bit, tally_none, none_tally, tally_less, tally_group}
use Rattle.rules.proofs.Rows.{phase_in, holds_to, total, reads, reads_in}

all_zero_at : (ns : List ℕ) → all_zero ns ≡ true → (g : ℕ) → get_or ns g 0 ≡ 0
all_zero_at [] all g = refl
all_zero_at (n ∷ ns) all zero = eqb-true n 0 (and_parts (eqb n 0) (all_zero ns) all).0
all_zero_at (n ∷ ns) all (suc g) = all_zero_at ns (and_parts (eqb n 0) (all_zero ns) all).1 g

at_all_zero : (ns : List ℕ) → ((g : ℕ) → g < length ns → get_or ns g 0 ≡ 0) → all_zero ns ≡ true
at_all_zero [] each = refl
at_all_zero (n ∷ ns) each =
    and_from (eqb n 0) (all_zero ns) (eq-eqb n 0 (each 0 (omega arith))) (at_all_zero ns (λ g h. each (suc g) (omega arith)))

-- The count of each group is the number of its tasks that hold to read.
abbrev pub Counted : Sizes → Word → List Row → Type 0
Counted z w rows = (g : ℕ) → g < z.groups → count g w ≡ total (reads_in z g) rows

module _ (z : Sizes) (fine : Lawful z) (w : Word) (rows : List Row) (wide : length w.counts ≡ z.groups) (agree : Counted z w rows) where
  some : 0 < z.groups
  some = let h = fine.some in omega arith

  pub group_below : (t : ℕ) → t % z.groups < z.groups
  group_below t = mod_below t z.groups some

  pub zero_none : all_zero w.counts ≡ true → total reads rows ≡ 0
  zero_none all =
      none_tally (λ x. reads x (phase_in rows x)) 64 (λ x h.
      let g = x % z.groups in
      let empty : total (reads_in z g) rows ≡ 0 = sym (agree g (group_below x)) ∙ all_zero_at w.counts all g in
      let out : (eqb (x % z.groups) g && holds_to Read (phase_in rows x)) ≡ false = tally_none (λ y. reads_in z g y (phase_in rows y)) 64 empty x h in
      let here = eq-eqb g g refl in
      grind (arith, nat_tests))

  pub none_zero : total reads rows ≡ 0 → all_zero w.counts ≡ true
  none_zero none =
      at_all_zero w.counts (λ g h.
      let small : g < z.groups = omega arith in
      agree g small ∙ none_tally (λ x. reads_in z g x (phase_in rows x)) 64 (λ x k.
      let out : holds_to Read (phase_in rows x) ≡ false = tally_none (λ y. reads y (phase_in rows y)) 64 none x k in
      grind (arith, nat_tests)))

  -- a task that does not hold to read finds room in its group
  pub below_limit : (t : ℕ) → t < 64 → holds_to Read (phase_in rows t) ≡ false → count (t % z.groups) w < z.limit
  below_limit t h out =
      let g = t % z.groups in
      let less = tally_less (λ x. reads_in z g x (phase_in rows x)) (λ x. eqb (x % z.groups) g) 64 t
      (λ x both. (and_parts (eqb (x % z.groups) g) (holds_to Read (phase_in rows x)) both).0) h
      (let b : bit (holds_to Read (phase_in rows t)) ≡ 0 = ap bit out in grind (arith, nat_tests)) (eq-eqb g g refl) in
      let all = tally_group z.groups g 64 in
      let enough = fine.ample g in
      let is = agree g (group_below t) in
      omega arith

module _ (w : Word) (g n : ℕ) (within : g < length w.counts) where
  pub count_here : count g (counted g n w) ≡ n
  count_here = get_or-set_same w.counts g n 0 within

  pub count_there : (k : ℕ) → (k ≡ g → ⊥) → count k (counted g n w) ≡ count k w
  count_there k ne = get_or-set_other w.counts g k n 0 ne

  pub count_wide : length (counted g n w).counts ≡ length w.counts
  count_wide = length-set w.counts g n
