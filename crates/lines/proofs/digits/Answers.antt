use Rattle.std.proofs.Common.{rules, refl}
use Rattle.lines.specs.Hex.{hex_at, hex_of}
use Rattle.lines.proofs.Mapped.{mapped, served}
use Rattle.lines.proofs.digits.Goals as goal

pub map-requires : goal.map-requires
map-requires c =
    (search rules, (search rules, (search rules, served _ refl (λ x q k. search rules) (λ x few. search rules))))

pub returns : goal.returns
unfolding hex_of
returns c = mapped _ (hex_at c.args.word) _ (λ x y q call. (search rules, search rules)) _ _ 8 refl c.map.ensures.items
