-- The lines that are still to come. Assumes nothing.
use Rattle.std.specs.Prelude.{ℕ, List}
use Rattle.cut.specs.declared.iter.Lines.{Lines}
use Rattle.cut.specs.Lines.{lines_of}

-- The lines of the bytes that are left.
abbrev pub lines_left : Lines → List (List ℕ)
lines_left lines = lines_of lines.rest.now
