use Rattle.cq_list.proofs.Kept.{counted}
use Rattle.cq_list.proofs.input_list.InputList.place_for.Goals as goal

pub place_of-requires-clause-all : goal.place_of-requires-clause-all
place_of-requires-clause-all c = cc (counted c.self.invariant c.self.view_is c.args.output)
