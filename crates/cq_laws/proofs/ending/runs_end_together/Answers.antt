use Rattle.cq_laws.proofs.Terms.{rules}
use Rattle.cq_laws.proofs.EndsTogether.{end_alike, slots_told, stop_alike}
use Rattle.cq_laws.proofs.ending.runs_end_together.Goals as goal

pub returns : goal.returns
returns c = search (rules, end_alike, stop_alike, slots_told)
