-- The words of this crate's proofs that stand elsewhere, each passed on from its place.
pub use Rattle.cq_base.proofs.Library.{All-from_recursion, AllByRecursion, AllZip-map, Bool, IfSome, IsNonDecreasingBy, IsPartitionPoint-from_clause, IsPartitionedBy-leb, List, None, Option, Some, [], ap, append-nil, arith, cases_eq, cases_lt, cases_order, common_steps, cond, div-le_self, div_ceil_times, eqb, ext_get_or, fill_by_all, filter, filter-append, find, find-append, flat_map, flat_map-append, flat_map-map, fold, fold-append, get_or, get_or-map, get_or-map-range_with_len, get_or-replicate, get_or-set_other, get_or-set_same, get_or_default, get_or_read, inr, leb, length, length-append, length-map, length-map-range_with_len, length-replicate, length-set, map, map-id, map-range_with_len_more, max, min, mul-le-mul_right, ne_eqb, option_map, range_with_len, reduce, refl, rules, set, slice_index_or, slice_set, suc, sum_by, sum_by-cons, sum_by-take-le, sum_by_more, sym, take, take_more, tests, true≢false, unwrap_or-slice_get, vec_capacity, vec_len, with_items_is, zero, ℕ, ◌%◌, ◌&&◌, ◌*◌, ◌++◌, ◌+◌, ◌-◌, ◌/◌, ◌<◌, ◌^◌, ◌∙◌, ◌∷◌, ◌≡◌, ◌≢◌, ◌≤◌, and_right, cond_both, eqb-true, eq-eqb}
pub use Rattle.cq_base.proofs.Places.{arrival_at-no_arrivals}
pub use Rattle.cq_base.specs.Arrivals.{arrival_at, no_arrivals}
pub use Rattle.cq_base.specs.Arriving.{Arrival, arriving_at, end_of}
unfoldable pub use Rattle.cq_base.specs.Arriving.{arriving, enough}
pub use Rattle.cq_base.specs.declared.cell.Cell.{Cell}
pub use Rattle.cq_pcap.specs.Captured.{Captured, file_length, rows_from}
pub use Rattle.cq_pcap.specs.declared.capture.PacketRow.{PacketRow}
pub use Rattle.cq_route.proofs.Bounds.{route_class, route_output}
pub use Rattle.cq_cells.specs.Lines.{AreAdded, AreOwn, AreRows, IsBegun, IsEnded, all_of, row_arrivals, row_at, row_cell}
unfoldable pub use Rattle.cq_cells.specs.Lines.{line_arrivals}
pub use Rattle.cq_cells.specs.NextArrival.{ArrivesIn, IsFirstFrom, IsNextArrival}
pub use Rattle.cq_cells.specs.Schedule.{arrivals_of, earlier, t0_of, packet_at, packet_in, packets_of, stamps_of}
unfoldable pub use Rattle.cq_base.specs.Pieces.{cells_of}
pub use Rattle.cq_base.specs.Items.{EachPair, Has}
unfoldable pub use Rattle.cq_cells.specs.Schedule.{arrivals, arrivals_at, cell_of, cells, stamp_slot, start}
pub use Rattle.cq_cells.specs.Traffic.{IsInRange, IsLater, IsRecorded, IsShort, IsTraffic, is_from, is_to, number_of}
pub use Rattle.cq_cells.specs.declared.line.Row.{Row}
pub use Rattle.cq_cells.specs.Terms.{AreTables, StandBelow, Tables, classes_of, ports_of, route}
pub use Rattle.cq_base.proofs.Each.{all_both, all_flat, all_made, all_weaker, few_kept, filter_all, filter_none}
pub use Rattle.cq_base.proofs.Having.{all_from_has, all_of_has}
pub use Rattle.cq_base.proofs.Pooled.{all_pairs, pairs_joined}
