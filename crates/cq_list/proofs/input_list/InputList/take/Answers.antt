use Rattle.cq_list.proofs.Terms.{rules, ◌∙◌, sym, arith, without_first, taken_none, StandFor}
use Rattle.cq_list.proofs.Kept.{kept, cells_are, position-none, counted, queue_inside, some_places, left}
use Rattle.cq_list.proofs.input_list.InputList.take.Goals as goal

pub returns-in-None : goal.returns-in-None
returns-in-None c =
    let none = taken_none c.args.output c.args.self.now.cells in search (arith, rules, none, position-none)

pub len_of-requires : goal.len_of-requires
len_of-requires c = queue_inside _ c.args.output _ (sym c.first.ensures ∙ c.in-Some.is)

pub remove_first-requires : goal.remove_first-requires
remove_first-requires c =
    search (arith, rules, some_places c.self.invariant c.self.view_is, counted c.self.invariant c.self.view_is)

-- what the new places and the new pool stand for
now : (c : goal.After-take) → StandFor c.self.inside.outputs c.remove_first.new.self c.take.new.self
    (without_first c.args.output c.args.self.now.cells)
now c = search (arith, rules, left)

pub invariant_of-self : goal.invariant_of-self
invariant_of-self c = kept (now c)

pub returns-in-Some-clause-cells : goal.returns-in-Some-clause-cells
returns-in-Some-clause-cells c = cells_are (now c)
