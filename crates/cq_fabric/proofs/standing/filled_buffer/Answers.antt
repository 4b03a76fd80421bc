use Rattle.cq_fabric.proofs.Terms.{arith, rules, length_put}
use Rattle.cq_fabric.proofs.Filling.{stands_last}
use Rattle.cq_fabric.proofs.standing.filled_buffer.Goals as goal

pub cells-preserved : goal.cells-preserved
cells-preserved c = search (arith, rules, stands_last, length_put)
