use Rattle.cq_cells.proofs.Owned.{none_stand}
use Rattle.cq_cells.proofs.coming.Coming.none.Goals as goal

pub invariant_of-result : goal.invariant_of-result
invariant_of-result c = none_stand 0 _ c.none-arrivals.ensures
