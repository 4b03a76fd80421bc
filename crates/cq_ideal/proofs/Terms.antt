-- The words of this crate's proofs that stand elsewhere, each passed on from its place.
pub use Rattle.cq_base.proofs.Library.{All, All-from_recursion, All-push, All-set, AllByRecursion, Bool, Err, IfOk, IsOkAnd, IsTrue, List, None, Ok, Option, Result, Some, [], and_from, and_left, and_parts, and_right, ap, append-nil, append_assoc, arith, both_ways, cases_Bool, cases_eq, cases_lt, common_steps, cond, cond-false, cond-true, cond_both, cons_option, drop, drop-set-lt, drop_all, drop_more, enumerate_from, eq-eqb, eqb, eqb-true, err_from_is_err_and, ext_get_or, fails_before_first, fill_by_all, false, false_from_ne_true, filter, filter-append, filter_map, flat_map-append, get_or, get_or-drop, get_or-map, get_or-map-range_with_len, get_or-range_with_len, get_or-replicate, get_or-set_other, get_or-set_same, get_or_at, get_or_past, is_some, le-leb, le-ltb, leb-true, length, length-append, length-drop, length-map, length-map-range_with_len, length-range_with_len, length-replicate, length-set, length-take, length-take-le, list_all, list_all-from_AllPass, list_all-map, lt-ltb, ltb-true, map, map-append, map-set, map-set_same, map_push, max, nat_lt, ne_eqb, nil_from_length, not, on_err_weaker, on_ok_weaker, option_map, option_to_list, passes_at_first, position_or_len, prefix_len-le-length, range_with_len, refl, replicate, replicate_more, rules, same_Some, set, set-get_or, set_at, slice_get, slice_index_or, subst, suc, sym, take, take-append-drop, take_all, take_more, take_more_set, true, unwrap_or-slice_get, vec_capacity, vec_len, zero, ℕ, ⊎_elim, ◌&&◌, ◌++◌, ◌+◌, ◌-◌, ◌<◌, ◌==◌, ◌^◌, ◌↔◌, ◌∙◌, ◌∷◌, ◌≡◌, ◌≢◌, ◌≤◌, ◌⊎◌}
pub use Rattle.std.proofs.lemmas.List.{Elements.All-replicate, Elements.recursion_from_All}
pub use Rattle.cq_base.proofs.Lists.{all_by, other_key_newest}
pub use Rattle.cq_base.specs.Arriving.{Arrival, arriving_at, end_of}
unfoldable pub use Rattle.cq_base.specs.Arriving.{arriving, enough, traffic_of}
pub use Rattle.cq_base.specs.Cells.{ArrivedBefore, is_for, put}
pub use Rattle.cq_base.specs.Items.{EachPair, Has}
unfoldable pub use Rattle.cq_base.specs.Key.{is_before}
pub use Rattle.cq_base.specs.Limits.{most_ports}
pub use Rattle.cq_base.specs.{Room.RoomView, declared.cell.Departure.Departure, declared.cell.Queued.Queued}
pub use Rattle.cq_rank.specs.Machine.{KeepsLaws, Machine, first_come, machine_at, told}
pub use Rattle.cq_ideal.specs.Admission.{Admission, Marked, NoLimits, RefusesNone, admitted, admitted_in, held_after, is_first, mark_after, mark_at, marked, marks_after, marks_down, nothing_refused, refused, unless}
unfoldable pub use Rattle.cq_ideal.specs.Admission.{admission}
pub use Rattle.cq_ideal.specs.Ending.{IdealEnds, first_slots, is_over, slots_of}
unfoldable pub use Rattle.cq_ideal.specs.Ending.{arriving_from, slots_of_run, whole_ideal_run}
pub use Rattle.cq_ideal.specs.Flows.{FlowsLeaveAsTheyCame, IsForSwitch, IsRunnable, RiseByInput, came_in_flow, leaves_in_flow, left_in_flow}
pub use Rattle.cq_ideal.specs.Ideal.{IdealSwitch, SpareFollows, count_for, marked_state}
pub use Rattle.cq_ideal.specs.IdealRun.{IsEmptyIdeal, Ran, departures_ran, empty_ideal, nothing_sent, then_ran}
unfoldable pub use Rattle.cq_ideal.specs.IdealRun.{departures_of, ideal_run}
pub use Rattle.cq_ideal.specs.IdealSlot.{IdealState, Sent, departures_from, fronts, ideal_sends, put_all, rests}
unfoldable pub use Rattle.cq_ideal.specs.IdealSlot.{all_told, departures_in, filled, ideal_slot, idled}
pub use Rattle.cq_ideal.specs.LimitedEnding.{LimitedIdealEnds, departures_limited}
unfoldable pub use Rattle.cq_ideal.specs.LimitedEnding.{slots_of_limited_run, whole_limited_run}
pub use Rattle.cq_ideal.specs.LimitedIdeal.{LimitedRan, LimitedSent, empty_limited, in_front, nothing_came, unlimited, with_admission}
unfoldable pub use Rattle.cq_ideal.specs.LimitedIdeal.{admitted_traffic, limited_run, limited_slot}
pub use Rattle.cq_ideal.specs.Limiter.{CanCount, ComeToPorts, HasPorts, HoldsLists, JudgesAsBefore, LimiterView, where_up}
pub use Rattle.cq_ideal.specs.Parts.{AllArrivedBefore, AreParts, AreWithinRooms, CameToPorts, CanPut, FitTogether, HaveOwnKeys, HaveRoomFor, IsWithin, QueueView, QueuesView, RanksView, after_inputs, count_to, given_at, level_at, list_at, rank_at, state_of, with_came, with_cell}
pub use Rattle.cq_ideal.specs.Ranking.{AreForPorts, Ranking, after_input, keyed, ranking}
pub use Rattle.cq_ideal.specs.Refused.{AreAllZero, refused_at, refused_in, with_cells, with_refused}
unfoldable pub use Rattle.cq_ideal.specs.Refused.{cells_refused, packets_refused, refused_counts}
pub use Rattle.cq_ideal.specs.WholePackets.{AreJudged, AreOfPackets, AreWholePackets, came_at, cells_at}
pub use Rattle.cq_ideal.specs.declared.refused.Refused.{Refused}
pub use Rattle.cq_ideal.specs.Terms.{AreForOneSwitch, Cell, TagFault, arrival_at, class_count, no_arrivals}
pub use Rattle.cq_base.proofs.Each.{all_both, all_made, all_weaker, few_kept, filter_all, filter_none}
pub use Rattle.cq_base.proofs.Putting.{all_put, length_put}
pub use Rattle.cq_base.proofs.Having.{all_from_has, all_of_has, has_kept, image_has, kept_has, none_had, pair_of_has}
pub use Rattle.cq_base.proofs.Pooled.{each_pair}
