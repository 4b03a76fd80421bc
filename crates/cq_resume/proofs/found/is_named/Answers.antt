use Rattle.cq_resume.proofs.Terms.{rules, ◌∙◌}
use Rattle.cq_resume.proofs.Cut.{computes}
use Rattle.cq_resume.proofs.Zipped.{arrival_key, named_where}
use Rattle.cq_resume.proofs.found.is_named.Goals as goal

pub returns : goal.returns
returns c =
    let found = c.binary_search_by_key.ensures.position arrival_key (computes arrival_key (λ a r q k. search rules)) in
    c.is_ok.ensures.value ∙ named_where _ _ _ c.requires _ c.binary_search_by_key.ensures.bound found
