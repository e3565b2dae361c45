-- What is printed of a line that is not carried out. Assumes nothing.
use Rattle.std.specs.Prelude.{ℕ, List, ◌++◌, codes, decimal}
use Rattle.types.specs.Numbers.{refusal_number}
use Rattle.driver.specs.declared.trouble.Trouble.{Trouble}
use Rattle.driver.specs.declared.trouble.Trouble.TheVariants.{Call, Line}

-- Of a refused call its number in base ten; of a refused line its number and the place.
abbrev pub trouble_said : Trouble → List ℕ
trouble_said (Call refusal) = codes "refused " ++ decimal (refusal_number refusal)
trouble_said (Line fault) = codes "refused " ++ (decimal (refusal_number fault.refusal) ++ (codes " at " ++ decimal fault.place))
