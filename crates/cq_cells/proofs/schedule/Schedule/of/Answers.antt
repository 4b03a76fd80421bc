use Rattle.cq_cells.proofs.Terms.{rules, slice_index_or, arith, with_items_is, get_or-replicate, length-replicate, length-map-range_with_len}
use Rattle.cq_cells.proofs.Rising.{own_lines, all_lines, traffic_is, short_is}
use Rattle.cq_cells.proofs.schedule.Schedule.of.Goals as goal

pub total_of-total-requires : goal.total_of-total-requires
total_of-total-requires g c = search (arith, rules, length-map-range_with_len)

ruleset sizes = (length-map-range_with_len, length-replicate, with_items_is, slice_index_or, get_or-replicate)

pub invariant_of-result : goal.invariant_of-result
invariant_of-result g c = search (arith, rules, sizes, own_lines, c.in_ok-lines.ensures.counts)

pub returns : goal.returns
returns g c =
    let came = all_lines c.args.tables.now c.args.captures.now c.in_ok-lines.lines.items c.in_ok-lines.ensures.lines in
    search (arith, rules, length-map-range_with_len, came, traffic_is, short_is)
