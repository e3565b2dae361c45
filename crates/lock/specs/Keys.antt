-- Who has the queue lock, told by a flag. Assumes nothing.
use Rattle.std.specs.Prelude.{◌≡◌, ℕ, ◌+◌, Bool, cond, List, [], ◌∷◌}
use Rattle.rules.specs.Locks.{has_queue_lock}
use Rattle.rules.specs.declared.Row.{Row}

-- How many tasks have the queue lock.
abbrev pub holders : List Row → ℕ
holders [] = 0
holders (r ∷ rs) = cond (has_queue_lock r.phase) 1 0 + holders rs

-- At most one task has the queue lock, and the flag is on exactly while one has.
abbrev pub Keyed : List Row → Bool → Type 0
Keyed rows flag = holders rows ≡ cond flag 1 0
