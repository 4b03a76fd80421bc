use Rattle.cq_fabric.proofs.Terms.{rules, arith, cases_lt, get_or_default, get_or_past, length-map, cells-at, ports, whole, sym, subst, FitLists}
use Rattle.cq_fabric.proofs.Queued.{HaveCome, fit_each, arrived_rooms}
use Rattle.cq_fabric.proofs.Offered.{as_offered}
use Rattle.cq_fabric.proofs.queues.Queues.arrive.Goals as goal

-- ## What is known, call by call

-- what the loop says of the vectors, from what it says of their slices
come : (c : goal.After-self-1) →
    HaveCome c.self.inside.lists.items c.self.inside.buffers.items c.args.came.now (ports c.self.inside.offers)
    c.insert_each.new.lists
come c = search (arith, rules)

-- ## What is asked, and what stands afterwards

pub insert_each-requires : goal.insert_each-requires
insert_each-requires c =
    let fit = subst (FitLists c.args.came.now) (sym c.self.view_is) c.requires.fit in
    search (arith, rules, fit_each _ _ c.args.came.now _ c.self.invariant.square fit)

pub invariant_of-self : goal.invariant_of-self
invariant_of-self c = search (arith, rules, come c, get_or_default, whole, as_offered)

pub returns-clause-lists : goal.returns-clause-lists
returns-clause-lists c i = search (arith, rules, come c, whole, cells-at, get_or_past, length-map, cases_lt)

pub returns-clause-from_inputs : goal.returns-clause-from_inputs
returns-clause-from_inputs c = let rooms = arrived_rooms (come c) in search (arith, rules, whole)
