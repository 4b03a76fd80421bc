use Rattle.cq_pair.proofs.Waiting.{free_rise}
use Rattle.cq_pair.proofs.proposal_core.Core.part.Goals as goal

pub insert-requires-clause-rising : goal.insert-requires-clause-rising
insert-requires-clause-rising c = free_rise c.args.offers.now _ _ c.self.view_is c.requires.waiting
