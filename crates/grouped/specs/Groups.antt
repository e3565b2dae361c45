-- What the fields of a grouped word mean. Assumes nothing.
use Rattle.std.specs.Prelude.{ℕ, Bool, List}
use Rattle.word.specs.Words.{Sizes, Word}

-- Eight groups, each with a count of 16 bits.
abbrev pub grouped_sizes : Sizes
grouped_sizes = record { groups = 8; limit = 65535 }

-- The marks and counters as they stand.
abbrev pub grouped_word : Bool → Bool → Bool → List ℕ → Word
grouped_word locked writers readers counts = record { locked = locked; writers_wait = writers; readers_wait = readers; counts = counts }
