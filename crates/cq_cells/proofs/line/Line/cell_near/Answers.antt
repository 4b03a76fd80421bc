use Rattle.cq_cells.proofs.Terms.{rules, arith, get_or_read}
use Rattle.cq_cells.proofs.Looked.{LastBegun, starts_rise, line_none, line_over, line_found}
use Rattle.cq_cells.proofs.line.Line.cell_near.Goals as goal
use Rattle.cq_cells.proofs.line.Line.cell_near.Goals.{After-index}

pub begun_near-requires : goal.begun_near-requires
begun_near-requires c = search (rules, starts_rise c.self.inside.cell_bytes)

pub returns-in_err-packet : goal.returns-in_err-packet
returns-in_err-packet c =
    search (arith, rules, line_none c.self.inside.input c.self.inside.cell_bytes c.self.inside.rows.items c.args.slot)

-- the packet is the last that has begun
last : (c : After-index) → LastBegun c.self.inside.rows.items c.args.slot c.in_ok-packet.packet c.index.result.now
last c = search (arith, rules, get_or_read)

pub overflow_sub-index : goal.overflow_sub-index
overflow_sub-index c = (last (goal.at.overflow_sub-index c).After-index).before

pub returns-then-index-from : goal.returns-then-index-from
returns-then-index-from c =
    let line = c.self.inside in
    let over = line_over line.input line.cell_bytes line.rows.items c.args.slot c.in_ok-packet.packet
    c.index.result.now c.self.invariant.0 in
    search (arith, rules, over, last (goal.at.returns-then-index-from c).After-index)

pub overflow_cast-id-2 : goal.overflow_cast-id-2
overflow_cast-id-2 c = search (arith, rules, last, c.self.invariant.0.small)

pub returns : goal.returns
returns c =
    let line = c.self.inside in
    let found = line_found line.input line.cell_bytes line.rows.items c.args.slot c.in_ok-packet.packet
    c.index.result.now c.self.invariant.0 in search (arith, rules, found, last (goal.at.returns c).After-index)
