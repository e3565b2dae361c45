use Rattle.std.proofs.Common.{◌+◌, sym, refl, subst, arith}
use Rattle.chain.specs.declared.places.Links.{Links}
use Rattle.chain.specs.Walks.{Linked}
use Rattle.chain.proofs.Links.{linked_first, linked_behind}
use Rattle.chain.proofs.places.Links.link.Goals as goal
use Rattle.chain.proofs.places.Links.link.Goals.{then-self-eq0, else-self-eq0}

pub returns : goal.returns
returns c =
    let l = c.args.self.now in
    let behind = c.args.behind in
    let task = c.args.task in
    let direction = c.args.direction in
    let Done : Links → Type 0 = λ m. Linked l (record { places = m.places; head = m.head; tail = m.tail; last_reader = m.last_reader; readers = m.readers; len = m.len + 1 }) behind task direction in
    elim c.if-self-eq0.branch [
      | then-self-eq0 w ↦ subst Done (sym w.self-is) (linked_first l behind task direction c.requires _ refl refl w.if-self-eq0.true)
      | else-self-eq0 w ↦ subst Done (sym w.self-is) (linked_behind l behind task direction c.requires (omega (arith, w.if-self-eq0.false)) _ _ refl refl refl refl refl refl)
    ]
