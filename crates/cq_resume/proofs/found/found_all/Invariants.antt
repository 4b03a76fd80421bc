use Rattle.cq_resume.proofs.Terms.{take, AllZip, Some}
use Rattle.cq_resume.proofs.found.found_all.Given as goal

abbrev pub invariant-items : goal.invariant-items
invariant-items g l = AllZip (λ s t. goal.F-post g l.find s (Some t)) (take l.item-index l.items) l.all.items
