use Rattle.std.proofs.Common.{◌≡◌, take}
use Rattle.lines.specs.Grammar.{value_of}
use Rattle.lines.proofs.value.Given as goal

abbrev pub invariant-loop-digit : goal.invariant-loop-digit
invariant-loop-digit l = l.value ≡ value_of (take l.digit-index l.digits)
