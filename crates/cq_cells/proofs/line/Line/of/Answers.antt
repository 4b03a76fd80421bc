use Rattle.cq_cells.proofs.Terms.{rules, arith, get_or_read, common_steps, length-map}
use Rattle.cq_cells.proofs.Packets.{so_far_more, AreRead, IsMade, IsWhole, at_end, next_row}
use Rattle.cq_cells.proofs.Stamps.{length-rows_from}
use Rattle.cq_cells.proofs.line.Line.of.Goals as goal
use Rattle.cq_cells.proofs.line.Line.of.Goals.{After-packets, After-row_of-row, After-rows-packets}

-- ## What is known, step by step

-- the packets are those of the input
read : (c : After-rows-packets) →
    AreRead c.args.captures.now c.args.input c.index-captures-input.result c.rows-packets.result.now
read c = search (arith, rules, length-rows_from, get_or_read)

-- the row is that of the packet at which the loop stands, and with its cells the counts stay small
made : (c : After-row_of-row) → IsMade c.args.tables.now c.args.captures.now c.args.input c.packets.k
    c.row_of-row.result c.packets.cells c.args.to_output.now c.packets.to_output
made c =
    let known : AreRead c.args.captures.now c.args.input c.index-captures-input.result c.rows-packets.result.now =
    search (arith, rules, length-rows_from, get_or_read) in
    search (arith, rules, next_row, known)

-- in the end the line stands whole
whole : (c : After-packets) → AreRead c.args.captures.now c.args.input c.index-captures-input.result
    c.rows-packets.result.now → IsWhole c.args.tables.now c.args.captures.now c.args.input c.packets.rows.items
    c.packets.free c.packets.cells c.args.to_output.now c.packets.to_output
whole c known =
    let many = known.many in
    at_end c.args.tables.now c.args.captures.now c.args.input c.packets.k c.packets.rows.items c.packets.free
    c.packets.cells c.args.to_output.now c.packets.to_output c.requires.tables.cell_bytes.0 known.recorded
    (omega (arith, c.packets-test.false, c.packets.auto.k-end)) c.packets.invariant.so_far

-- ## What is asked

pub bounds-routes-k : goal.bounds-routes-k
bounds-routes-k c =
    let many = (read (goal.at.bounds-routes-k c).After-rows-packets).many in
    let inside = c.packets-test.true in grind (arith, common_steps, length-map)

pub bounds-to_output-row : goal.bounds-to_output-row
bounds-to_output-row c = let is = made (goal.at.bounds-to_output-row c).After-row_of-row in omega arith

pub bounds-to_output-row-in-packets : goal.bounds-to_output-row-in-packets
bounds-to_output-row-in-packets c =
    let is = made (goal.at.bounds-to_output-row-in-packets c).After-row_of-row in omega arith

pub overflow_add-free : goal.overflow_add-free
overflow_add-free c = let is = made (goal.at.overflow_add-free c).After-row_of-row in omega (arith, c.from.ensures)

pub overflow_add-cells : goal.overflow_add-cells
overflow_add-cells c =
    let is = made (goal.at.overflow_add-cells c).After-row_of-row in omega (arith, c.from-cells.ensures)

pub overflow_add-to_output : goal.overflow_add-to_output
overflow_add-to_output c =
    let m = made (goal.at.overflow_add-to_output c).After-row_of-row in search (arith, rules, c.requires.room)

pub packets-preserved : goal.packets-preserved
packets-preserved c =
    let is = made (goal.at.packets-preserved c).After-row_of-row in
    let more = so_far_more c.args.tables.now c.args.captures.now c.args.input c.packets.k c.packets.rows.items
    c.packets.free c.packets.cells c.args.to_output.now c.packets.to_output in
    search (arith, rules, more)

-- ## What the line is

pub invariant_of-result : goal.invariant_of-result
invariant_of-result c =
    let at = goal.at.invariant_of-result c in
    let line = whole at.After-packets (read at.After-rows-packets) in (line.kept, line.all, line.few, line.ended)

pub returns : goal.returns
returns c =
    let known = read (goal.at.returns c).After-rows-packets in
    let line = whole (goal.at.returns c).After-packets known in search (arith, rules)
