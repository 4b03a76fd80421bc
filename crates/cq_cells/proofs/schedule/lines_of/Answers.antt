use Rattle.cq_cells.proofs.Terms.{filter-append, length-append, few_kept, rules, arith, cases_eq, append-nil, flat_map-append, map-range_with_len_more, arrivals_at}
use Rattle.cq_cells.proofs.schedule.lines_of.Goals as goal

pub of-requires-clause-room : goal.of-requires-clause-room
of-requires-clause-room g c j h = search (arith, rules, c.inputs.invariant.small)

pub inputs-preserved : goal.inputs-preserved
inputs-preserved g c =
    let more = map-range_with_len_more (arrivals_at c.args.tables.now c.args.captures.now) 0 c.inputs.input in
    search (arith, rules, more, filter-append, length-append, flat_map-append, append-nil, cases_eq, few_kept)
