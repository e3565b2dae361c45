-- The first line of an input, cut off. Assumes nothing.
use Rattle.std.proofs.Common.{◌≡◌, ℕ, ◌+◌, ◌-◌, ◌<◌, ◌≤◌, List, [], ◌∷◌, length, take, drop, position, Some, None, arith}
use Rattle.std.proofs.lemmas.Bool.Decides.{nat_tests}
use Rattle.std.proofs.lemmas.Grind.{common_steps}
use Rattle.cut.specs.Lines.{in_first, lines_of, is_newline, first_line, behind_first}

-- the first line is what stands before the first newline, and the others are the lines behind it
pub lines_cut : (bs : List ℕ) → 0 < length bs → lines_of bs ≡ first_line bs ∷ lines_of (behind_first bs)
unfolding lines_of
lines_cut [] some = absurd (omega arith)
lines_cut (b ∷ []) some = grind (arith, nat_tests)
lines_cut (b ∷ x ∷ bs) some = grind (arith, nat_tests, lines_cut (x ∷ bs) (omega arith))

-- the parts on both sides of the first newline
pub cut_at : (bs : List ℕ) (n : ℕ) → Some n ≡ position is_newline bs → (take n bs ≡ first_line bs) × (take (length bs - (n + 1)) (drop (n + 1) bs) ≡ behind_first bs)
cut_at bs n at = (grind (arith, common_steps), grind (arith, common_steps))

-- the whole is the first line where there is none
pub cut_nowhere : (bs : List ℕ) → None ≡ position is_newline bs → (bs ≡ first_line bs) × ([] ≡ behind_first bs)
cut_nowhere bs none = (grind (arith, common_steps), grind (arith, common_steps))

-- a byte in front makes at most one line more
few_first : (b : ℕ) (lines : List (List ℕ)) → length (in_first b lines) ≤ length lines + 1
few_first b [] = omega arith
few_first b (line ∷ lines) = omega arith

-- no more lines than bytes
pub few_lines : (bs : List ℕ) → length (lines_of bs) ≤ length bs
unfolding lines_of
few_lines [] = omega arith
few_lines (b ∷ bs) = grind (arith, nat_tests, few_lines bs, few_first b (lines_of bs))
