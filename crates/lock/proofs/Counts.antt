-- Whether all numbers of a list are 0, told by its places. Assumes nothing.
use Rattle.std.proofs.Common.{◌≡◌, ℕ, zero, suc, ◌<◌, Bool, true, false, List, [], ◌∷◌, length, slice_index, IsTrue, sym, refl, inl, inr, arith}
use Rattle.std.proofs.lemmas.Bool.{cases_Bool}
use Rattle.std.proofs.lemmas.Bool.Decides.{nat_tests}
use Rattle.word.specs.Words.{all_zero}

zeros : (xs : List ℕ) → ((k : ℕ) → k < length xs → slice_index xs k ≡ 0) → all_zero xs ≡ true
zeros [] each = refl
zeros (x ∷ xs) each = let ih = zeros xs (λ k h. each (suc k) (omega arith)) in let first = each 0 (omega arith) in grind (arith, nat_tests)

zero_at : (xs : List ℕ) → all_zero xs ≡ true → (k : ℕ) → k < length xs → slice_index xs k ≡ 0
zero_at [] all k within = absurd (omega arith)
zero_at (x ∷ xs) all zero within = grind (arith, nat_tests)
zero_at (x ∷ xs) all (suc k) within = let rest : all_zero xs ≡ true = grind (arith, nat_tests) in zero_at xs rest k (omega arith)

pub zeros_told : (b : Bool) (xs : List ℕ) → (IsTrue b → (k : ℕ) → k < length xs → slice_index xs k ≡ 0) → (((k : ℕ) → k < length xs → slice_index xs k ≡ 0) → IsTrue b) → b ≡ all_zero xs
zeros_told true xs all each = sym (zeros xs (all refl))
zeros_told false xs all each =
    elim (cases_Bool (all_zero xs)) [ inl is ↦ let bad : false ≡ true = each (zero_at xs is) in cc | inr is ↦ sym is ]
