use Rattle.cq_list.proofs.Terms.{◌∙◌}
use Rattle.cq_list.proofs.Kept.{counted, place_found}
use Rattle.cq_list.proofs.input_list.InputList.place_of_key.Goals as goal

pub place_behind-requires-clause-all : goal.place_behind-requires-clause-all
place_behind-requires-clause-all c = c.len_of.ensures ∙ counted c.self.invariant c.self.view_is c.args.output

pub returns : goal.returns
returns c =
    place_found c.self.invariant c.self.view_is c.args.output _ c.ahead_of_key-ahead.ensures c.place_behind.ensures
