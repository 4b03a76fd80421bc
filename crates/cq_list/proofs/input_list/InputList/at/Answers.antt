use Rattle.cq_list.proofs.Terms.{arith, rules, slice_get_within}
use Rattle.cq_list.proofs.Kept.{shown}
use Rattle.cq_list.proofs.input_list.InputList.at.Goals as goal

pub at-requires : goal.at-requires
at-requires c = search (arith, rules, slice_get_within, shown c.self.invariant c.self.view_is c.args.place)

pub returns : goal.returns
returns c = search (arith, rules, shown c.self.invariant c.self.view_is c.args.place)
