use Rattle.cq_resume.proofs.Terms.{arith, rules}
use Rattle.cq_resume.proofs.Zipped.{names_sorted}
use Rattle.cq_resume.proofs.found.names_of.Goals as goal

pub returns-clause-ordered : goal.returns-clause-ordered
returns-clause-ordered c = search (arith, rules, names_sorted _ c.sort_unstable_by_key.ensures.sorted)
