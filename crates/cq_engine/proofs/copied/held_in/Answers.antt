use Rattle.cq_engine.proofs.Terms.{rules, ◌≡◌, ◌<◌, length, ap, arith, get_or_read, list_of, fabric_in}
use Rattle.cq_engine.proofs.Counted.{cells_inside, held_next}
use Rattle.cq_engine.proofs.copied.held_in.Goals as goal
use Rattle.cq_engine.proofs.copied.held_in.Goals.{After-as_slice}

-- the cells that are counted are those of the input's list
here : (c : After-as_slice) → c.as_slice.result.now ≡ list_of (fabric_in c.args.from.now).inputs c.inputs.list-index
here c = search (arith, rules, get_or_read)

inside : (c : After-as_slice) → c.inputs.list-index < length c.args.from.now.lists
inside c = let long = ap length c.as_slice-lists.ensures in omega arith

pub count_each-requires : goal.count_each-requires
count_each-requires c = search (arith, rules, cells_inside, inside, here)

pub inputs-preserved : goal.inputs-preserved
inputs-preserved c =
    let at = (goal.at.inputs-preserved c).After-as_slice in
    search (arith, rules, held_next _ _ _ c.inputs.invariant, inside at, here at, c.in_ok-count_each.ensures)
