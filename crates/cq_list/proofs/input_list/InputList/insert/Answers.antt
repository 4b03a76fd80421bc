use Rattle.cq_list.proofs.Terms.{rules, ◌∙◌, ap, min, arith, with_arrival, StandFor, all_filter}
use Rattle.cq_list.proofs.Kept.{kept, cells_are, had, arrived, counted}
use Rattle.cq_list.proofs.input_list.InputList.insert.Goals as goal

pub put-ahead-requires-clause-other_key : goal.put-ahead-requires-clause-other_key
put-ahead-requires-clause-other_key c = search (arith, rules, had c.self.invariant c.self.view_is, all_filter)

pub place_behind-later-requires-clause-all : goal.place_behind-later-requires-clause-all
place_behind-later-requires-clause-all c = cc (counted c.self.invariant c.self.view_is c.args.queued.cell.output)

-- what the new places and the new pool stand for
now : (c : goal.After-insert) → StandFor c.self.inside.outputs c.insert.new.self c.put-ahead.new.self
    (with_arrival c.args.cushion c.args.queued c.args.self.now.cells)
now c =
    let least =
    c.min-place.ensures
    ∙ ap (min c.args.cushion) (c.min.ensures ∙ ap (min c.place_behind-later.result) c.len.ensures) in
    search (arith, rules, arrived, least)

pub invariant_of-self : goal.invariant_of-self
invariant_of-self c = kept (now c)

pub returns-clause-cells : goal.returns-clause-cells
returns-clause-cells c = cells_are (now c)
