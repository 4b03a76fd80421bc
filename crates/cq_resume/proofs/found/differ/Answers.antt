use Rattle.cq_resume.proofs.Terms.{rules, IsNameBefore}
use Rattle.cq_resume.proofs.Lanes.{neighbours_decide, name_on}
use Rattle.cq_resume.proofs.found.differ.Goals as goal

pub returns : goal.returns
returns c = neighbours_decide IsNameBefore c.args.names.now name_on c.neighbours_hold.ensures (λ a b r k. search rules)
