-- How an input is cut into lines. Assumes nothing.
use Rattle.std.specs.Prelude.{ℕ, Bool, cond, List, [], ◌∷◌, ◌==◌}
use Rattle.std.specs.List.{before_first, after_first}

-- A byte in front of the lines behind it begins the first of them, or is a line of its own where there is none.
abbrev pub in_first : ℕ → List (List ℕ) → List (List ℕ)
in_first b [] = (b ∷ []) ∷ []
in_first b (line ∷ lines) = (b ∷ line) ∷ lines

-- The lines of an input: each newline (10) ends one and belongs to none; what stands behind the last newline is one more, unless it is empty.
unfoldable pub lines_of : List ℕ → List (List ℕ)
lines_of [] = []
lines_of (b ∷ bs) = cond (b == 10) ([] ∷ lines_of bs) (in_first b (lines_of bs))

-- A byte is a newline.
abbrev pub is_newline : ℕ → Bool
is_newline b = b == 10

-- The first line of an input that has one, without its newline.
abbrev pub first_line : List ℕ → List ℕ
first_line bytes = before_first is_newline bytes

-- What stands behind the newline of the first line.
abbrev pub behind_first : List ℕ → List ℕ
behind_first bytes = after_first is_newline bytes
