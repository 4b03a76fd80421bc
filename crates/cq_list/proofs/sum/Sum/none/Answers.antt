use Rattle.cq_list.proofs.Terms.{most_ports}
use Rattle.cq_list.proofs.Queues.{same_at}
use Rattle.cq_list.proofs.sum.Sum.none.Goals as goal

pub returns-clause-counts : goal.returns-clause-counts
returns-clause-counts c j = same_at most_ports j 0
