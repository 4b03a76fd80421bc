-- The words of this crate's proofs that stand elsewhere, each passed on from its place.
pub use Rattle.cq_base.proofs.Library.{AllByRecursion, Bool, List, None, Option, Some, [], arith, cases_eq, cases_lt, common_steps, cond, eq-eqb, fill_by_all, get_or-replicate, get_or_past, is_some, length, length-replicate, map, map-range_with_len_more, min, ne_eqb, range_with_len, refl, replicate, rules, suc, sum_by, sum_by-append, sum_by-cons, sym, unwrap_or, unwrap_or-slice_get, zero, ℕ, ◌++◌, ◌+◌, ◌<◌, ◌∙◌, ◌∷◌, ◌≡◌, ◌≤◌, option_to_list}
pub use Rattle.cq_base.specs.Arrivals.{arrival_at, no_arrivals}
pub use Rattle.cq_base.specs.Arriving.{Arrival, arriving, arriving_at, end_of, enough}
unfoldable pub use Rattle.cq_base.specs.Arriving.{traffic_of}
pub use Rattle.cq_base.specs.Limits.{most_ports}
pub use Rattle.cq_base.specs.declared.cell.Cell.{Cell}
pub use Rattle.cq_cells.specs.Traffic.{IsInRange, IsTraffic, is_from, is_to, number_of}
pub use Rattle.cq_ideal.proofs.{FlowCount.arriving_is, FlowCount.found_here, FlowCount.found_none, FlowCount.length-arriving, FlowCount.other_input, FlowCount.other_slot, AtInput.is_shown}
unfoldable pub use Rattle.cq_ideal.proofs.FlowCount.{found}
pub use Rattle.cq_ideal.proofs.Waiting.{total_more, total_none}
unfoldable pub use Rattle.cq_ideal.proofs.Waiting.{total}
pub use Rattle.cq_ideal.specs.Ending.{first_slots}
unfoldable pub use Rattle.cq_ideal.specs.Ending.{arriving_from}
pub use Rattle.cq_base.proofs.Each.{all_weaker}
