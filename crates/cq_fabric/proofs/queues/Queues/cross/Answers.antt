use Rattle.cq_fabric.proofs.Terms.{rules, sym, subst, arith, length-map, cells_of, HaveCells, CanCross, whole, Held}
use Rattle.cq_fabric.proofs.Offered.{as_offered}
use Rattle.cq_fabric.proofs.Queued.{HaveCrossed, has_cell, have_room, crossed_list_rooms, crossed_buffer_rooms, crossed_square, matched_long}
use Rattle.cq_fabric.proofs.queues.Queues.cross.Goals as goal
use Rattle.cq_fabric.proofs.queues.Queues.cross.Goals.{After-self}

-- ## What is known, call by call

-- each pair of the matching has a cell that can cross
have : (c : After-self) → HaveCells c.args.matching.now (cells_of c.self.inside.lists.items)
have c = subst (λ (q : Held). HaveCells c.args.matching.now q.inputs) (sym c.self.view_is)
    (has_cell c.args.self.now c.args.matching.now c.requires.cells c.requires.matching)

-- what the transfer says of the vectors, from what it says of their slices
crossed : (c : goal.After-self-2-1) →
    HaveCrossed c.args.matching.now c.self.inside.lists.items c.self.inside.buffers.items c.cross_matched.new.lists
    c.cross_matched.new.buffers
crossed c = search (arith, rules, have)

-- ## What is asked, and what stands afterwards

pub cross_matched-requires-clause-pairs : goal.cross_matched-requires-clause-pairs
cross_matched-requires-clause-pairs c =
    let can = subst CanCross (sym c.self.view_is) c.requires.cells in
    let all = have (goal.at.cross_matched-requires-clause-pairs c).After-self in
    let room = have_room c.self.inside.lists.items c.self.inside.buffers.items c.args.matching.now can all in
    search (arith, rules, matched_long, length-map, room, all, can.keys)

pub cross_matched-requires-clause-follow : goal.cross_matched-requires-clause-follow
cross_matched-requires-clause-follow c =
    let can = subst CanCross (sym c.self.view_is) c.requires.cells in search (arith, rules, can.apart)

pub invariant_of-self : goal.invariant_of-self
invariant_of-self c = search
    (arith, rules, crossed, as_offered, length-map, whole, crossed_square, crossed_buffer_rooms)

pub returns-clause-from_inputs : goal.returns-clause-from_inputs
returns-clause-from_inputs c = search (arith, rules, whole, length-map, crossed_list_rooms, crossed)

pub returns-clause-to_outputs : goal.returns-clause-to_outputs
returns-clause-to_outputs c = search (arith, rules, whole, length-map, crossed_buffer_rooms, crossed)
