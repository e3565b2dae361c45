use Rattle.std.proofs.Common.{refl, ap}
use Rattle.std.proofs.lemmas.List.{get_or-replicate}
use Rattle.chain.specs.declared.places.Place.{Place}
use Rattle.chain.proofs.ChainWaitQueue.fresh.Goals as goal

pub invariant_of-result : goal.invariant_of-result
invariant_of-result c = record { laws = (refl, refl, refl); agrees = (refl, λ task h. ap (λ (p : Place). p.present) (get_or-replicate 64 task _ _ h), refl, refl, refl) }
