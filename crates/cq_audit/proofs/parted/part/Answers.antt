use Rattle.cq_audit.proofs.Terms.{arith, rules, take_rest}
use Rattle.cq_audit.proofs.Following.{parted}
use Rattle.cq_audit.proofs.parted.part.Goals as goal

pub returns-clause-parted : goal.returns-clause-parted
returns-clause-parted c ports order none = search (arith, rules, parted, take_rest)
