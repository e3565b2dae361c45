-- The flag of the queue lock after a row has changed. Assumes nothing.
use Rattle.std.proofs.Common.{◌≡◌, ℕ, zero, suc, ◌+◌, ◌<◌, Bool, true, false, cond, not, ◌&&◌, List, [], ◌∷◌, length, get_or, set, refl, ap, arith}
use Rattle.std.proofs.lemmas.Bool.Decides.{nat_tests}
use Rattle.std.proofs.lemmas.List.{length-set}
use Rattle.rules.specs.Locks.{out_row, has_queue_lock, is_queue_locked}
use Rattle.rules.specs.declared.Row.{Row}
use Rattle.lock.specs.Keys.{holders, Keyed}

abbrev bit : Bool → ℕ
bit b = cond b 1 0

holders_set : (rows : List Row) (t : ℕ) (row : Row) → t < length rows → holders (set rows t row) + bit (has_queue_lock (get_or rows t out_row).phase) ≡ holders rows + bit (has_queue_lock row.phase)
holders_set [] t row h = absurd (omega arith)
holders_set (r ∷ rs) zero row h = omega arith
holders_set (r ∷ rs) (suc t) row h = let ih = holders_set rs t row (omega arith) in omega arith

-- a write leaves as many rows
pub rows_set : (rows : List Row) (t : ℕ) (row : Row) → length (set rows t row) ≡ length rows
rows_set rows t row = length-set rows t row

-- while nobody has the queue lock, no row tells of it
pub none_locked : (rows : List Row) → holders rows ≡ 0 → is_queue_locked rows ≡ false
none_locked [] none = refl
none_locked (r ∷ rs) none = let ih = none_locked rs in grind (arith, nat_tests)

-- and while somebody has it, one does
pub one_locked : (rows : List Row) → 0 < holders rows → is_queue_locked rows ≡ true
one_locked [] some = absurd (omega arith)
one_locked (r ∷ rs) some = let ih = one_locked rs in grind (arith, nat_tests)

module _ (rows : List Row) (t : ℕ) (row : Row) (within : t < length rows) where
  -- a task whose row changes to one without the queue lock lets the queue lock go if it had it
  pub keyed_without : (flag had : Bool) → Keyed rows flag → has_queue_lock row.phase ≡ false → had ≡ has_queue_lock (get_or rows t out_row).phase → Keyed (set rows t row) (flag && not had)
  keyed_without flag had keyed lacks told = let e = holders_set rows t row within in let off : bit (has_queue_lock row.phase) ≡ 0 = ap bit lacks in let was : bit had ≡ bit (has_queue_lock (get_or rows t out_row).phase) = ap bit told in grind (arith, nat_tests)

  -- a task takes the queue lock
  pub keyed_taken : holders rows ≡ 0 → has_queue_lock row.phase ≡ true → Keyed (set rows t row) true
  keyed_taken none has = let e = holders_set rows t row within in let without = holders_set rows t out_row within in let on : bit (has_queue_lock row.phase) ≡ 1 = ap bit has in omega arith
