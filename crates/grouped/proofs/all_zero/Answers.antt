use Rattle.std.proofs.Common.{eqb, ◌&&◌, refl, ◌∙◌, rules}
use Rattle.std.proofs.lemmas.Iterator.{YieldsList-from_slice}
use Rattle.std.proofs.lemmas.Iterator.Search.{all_from_yields_List}
use Rattle.std.proofs.lemmas.List.Recursion.{same_from_clauses}
use Rattle.std.specs.List.{list_all}
use borrow.Author.Tests.{tests}
use Rattle.word.specs.Words.{all_zero}
use Rattle.grouped.proofs.all_zero.Goals as goal

pub returns : goal.returns
returns c =
    let xs = c.args.counts.now in
    all_from_yields_List (λ n. eqb n 0) _ _ c.all.result c.all.ensures.ran (YieldsList-from_slice xs cc) (λ x b q k. search (rules, tests)) ∙ same_from_clauses (list_all (λ n. eqb n 0)) all_zero (λ n r. eqb n 0 && r) refl (λ _ _. refl) (λ _ _. refl) xs
