use Rattle.cq_list.proofs.Terms.{refl}
use Rattle.cq_list.proofs.Counts.{no_places}
use Rattle.cq_list.proofs.block.Block.new.Goals as goal

pub invariant_of-result : goal.invariant_of-result
invariant_of-result c = no_places _ _ c.new.ensures refl
