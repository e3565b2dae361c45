use Rattle.std.proofs.Common.{◌+◌, sym, subst}
use Rattle.lines.specs.Scan.{AllDigits, TokenAt}
use Rattle.lines.proofs.Numbers.{number_digits}
use Rattle.lines.proofs.number.Goals as goal

pub value-requires-clause-all : goal.value-requires-clause-all
value-requires-clause-all c =
    let told = subst (TokenAt c.args.line.now (c.args.place + 1)) c.in-Number.is c.token_at-next.ensures.token in
    subst AllDigits (sym told.1) (number_digits c.args.line.now (c.args.place + 1))
