use Rattle.cq_resume.proofs.Terms.{◌≡◌, get_or, Some, arith, rules}
use Rattle.cq_resume.proofs.Zipped.{zip_more}
use Rattle.cq_resume.proofs.found.found_all.Given as given
use Rattle.cq_resume.proofs.found.found_all.Goals as goal

pub items-preserved : goal.items-preserved
items-preserved g c =
    let item = c.item-item.result in
    let found = c.in-Some.found in
    let read : item ≡ get_or c.args.items.now c.items.item-index item = search (arith, rules) in
    zip_more (λ s t. given.F-post g c.args.find s (Some t)) _ _ item _ _ found c.items-test.true c.items.invariant
    (rw (← read) (rw c.in-Some.is at c.find.ensures)) (search rules)
