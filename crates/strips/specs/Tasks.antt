-- What a strip holds. Assumes nothing.
use Rattle.std.specs.Prelude.{ℕ, List, take}
use Rattle.ring.specs.Held.{turned}
use Rattle.strips.specs.declared.strip.Strip.{Strip}

-- The tasks in a strip, oldest first, read all round from its start.
unfoldable pub tasks_of : Strip → List ℕ
tasks_of s = take s.len (turned s.tasks s.start)
