use Rattle.cq_lines.proofs.Terms.{rules, Decides-eqb, strip_prefix_is}
use Rattle.cq_lines.proofs.fields.behind.Goals as goal

pub returns : goal.returns
returns c = search (rules, strip_prefix_is Decides-eqb)
