use Rattle.chain.specs.Walks.{Linked, remembered, goes_behind, held}
use Rattle.chain.proofs.Links.{countable, joinable, joined_queue, joined_agrees}
use Rattle.chain.proofs.places.Links.join.Goals as goal

pub remember-requires : goal.remember-requires
remember-requires c = countable c.args.self.now c.args.task c.args.direction c.requires.laws c.requires.agrees c.requires.can

pub link-requires : goal.link-requires
link-requires c =
    rw (c.remember.ensures, c.goes_behind-behind.ensures) (joinable c.args.self.now c.args.task c.args.direction c.requires.laws c.requires.agrees c.requires.can)

pub returns : goal.returns
returns c =
    let l = c.args.self.now in
    let task = c.args.task in
    let direction = c.args.direction in
    let linked : Linked (remembered (goes_behind direction (held l)) task direction l) c.link.new.self (goes_behind direction (held l)) task direction =
    rw (c.remember.ensures, c.goes_behind-behind.ensures) at c.link.ensures in
    record {
      queue = joined_queue l task direction c.requires.laws c.requires.agrees c.requires.can c.link.new.self linked;
      agrees = joined_agrees l task direction c.requires.laws c.requires.agrees c.requires.can c.link.new.self linked;
    }
