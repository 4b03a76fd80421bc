use Rattle.cq_ideal.proofs.Terms.{refl}
use Rattle.cq_ideal.proofs.Changed.{none_used}
use Rattle.cq_ideal.proofs.newcomers.Newcomers.none.Goals as goal

pub invariant_of-result : goal.invariant_of-result
invariant_of-result c = none_used 0 _ refl
