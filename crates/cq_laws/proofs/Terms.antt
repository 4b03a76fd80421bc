-- The words of this crate's proofs that stand elsewhere, each passed on from its place.
pub use Rattle.cq_base.proofs.Library.{All, AllByRecursion, Bool, Err, List, None, Ok, Option, Some, [], ap, append-nil, append_assoc, arith, cases_Bool, cases_eq, cases_lt, common_steps, cond, cond_both, cons_option, drop, enumerate_from, eq-eqb, eqb-true, ext_get_or, false, filter, filter_map, filter_map-append, find, flat_map, flat_map-append, fold, fold-append, get_or-map-range_with_len, get_or-set_other, get_or-set_same, get_or_default, get_or_past, inl, inr, insert, is_some, length, length-append, length-enumerate_from, length-map, length-map-range_with_len, length-replicate, length-take-le, list_any, map, map-append, map_push, max, min, ne_eqb, option_and_then, option_map, position_or_len, range_with_len, reduce, refl, replicate, rules, same_Some, set, slice_get, slice_get-get_or, suc, sum_by-replicate, sum_by_push, sym, take, take-append-drop, take_all, true, true≢false, zero, ℕ, ⊎_elim, ◌++◌, ◌+◌, ◌-◌, ◌<◌, ◌==◌, ◌↔◌, ◌∙◌, ◌∷◌, ◌≡◌, ◌≢◌, ◌≤◌, ◌⊎◌}
pub use Rattle.cq_base.proofs.Keys.{key_laws}
pub use Rattle.cq_base.proofs.Lists.{each_pair_at, each_pair_left, first_here, first_later, first_le, keeps_order_arrival}
pub use Rattle.cq_base.specs.{Arrivals.arrival_at, Arriving.end_of, declared.figures.InputFigures.InputFigures, declared.key.Key.Key}
pub use Rattle.cq_base.specs.Cells.{IsBefore, IsRising, KeepsOrder, KeysDiffer, cushion, first_for, is_for, place_for, put, without_first}
pub use Rattle.cq_base.specs.Items.{EachPair, Has}
unfoldable pub use Rattle.cq_base.specs.Key.{is_before}
pub use Rattle.cq_base.specs.Limits.{most_ports}
pub use Rattle.cq_ideal.proofs.Admitted.{admitted_for_ports, marks_kept, no_arrivals_refuse_none}
pub use Rattle.cq_ideal.proofs.LimitedEnds.{ends, fewer_slots, found_end, limited_found_end, limited_whole_fault, not_more, whole_fault}
pub use Rattle.cq_ideal.proofs.LimitedRuns.{admitted_are, admitted_step, none_in, none_refused_in}
pub use Rattle.cq_ideal.proofs.Parted.{arriving_length, arriving_parts, departures_append, next_slot, quiet_from}
pub use Rattle.cq_ideal.proofs.Resting.{all_empty, idle_at, length-idle, nobody_sends, none_at, nothing_left, ranked_none}
pub use Rattle.cq_ideal.specs.Admission.{RefusesNone, marked, nothing_refused}
unfoldable pub use Rattle.cq_ideal.specs.Admission.{admission}
pub use Rattle.cq_ideal.specs.Ending.{IdealAfter, IdealEnds, IsEnd, arriving_from, first_slots, slots_of, slots_of_run}
unfoldable pub use Rattle.cq_ideal.specs.Ending.{whole_ideal_run}
pub use Rattle.cq_ideal.specs.IdealRun.{IsEmptyIdeal, empty_ideal}
unfoldable pub use Rattle.cq_ideal.specs.IdealRun.{departures_of, ideal_run}
pub use Rattle.cq_ideal.specs.IdealSlot.{departures_from, fronts, put_all, rests}
unfoldable pub use Rattle.cq_ideal.specs.IdealSlot.{all_told, departures_in, filled, ideal_slot}
pub use Rattle.cq_ideal.specs.LimitedIdeal.{empty_limited, ideal_admission}
unfoldable pub use Rattle.cq_ideal.specs.LimitedIdeal.{admitted_traffic, limited_run, limited_slot}
pub use Rattle.cq_ideal.specs.Ranking.{Ranking, ranking}
pub use Rattle.cq_prefs.proofs.InputOrder.{are_offers, are_orders}
pub use Rattle.cq_prefs.specs.FirstCells.{AreOrdersOf, FirstKeysDiffer, HasCellFor, IsOutputOrder, list_of, orders_of}
pub use Rattle.cq_prefs.specs.Moves.{list_taken, noted}
unfoldable pub use Rattle.cq_prefs.specs.Moves.{transfers_of}
pub use Rattle.cq_prefs.specs.Orders.{IsListed, Orders, outputs_of, ports}
unfoldable pub use Rattle.cq_prefs.specs.Orders.{place_in}
pub use Rattle.cq_prefs.specs.Pairing.{HasBetterInput, depth, partner_of, proposals, with_pair}
pub use Rattle.cq_laws.specs.Agreement.{RunsAlike, SendsAlike}
pub use Rattle.cq_laws.specs.Frozen.{IsSoundFabric, in_order}
unfoldable pub use Rattle.cq_laws.specs.Frozen.{ideal_of}
pub use Rattle.cq_laws.specs.Holding.{cells_for, held_for, waiting_for}
unfoldable pub use Rattle.cq_laws.specs.Holding.{fabric_held}
pub use Rattle.cq_laws.specs.LimitedAgreement.{ActAlike, ActAlikeFromEmpty, ActsAlike, LimitedAgrees, LimitedRunsAlike}
pub use Rattle.cq_laws.specs.Measures.{either_by, no_figures, sends}
unfoldable pub use Rattle.cq_laws.specs.Measures.{figures_after, figures_of, input_after, input_figures, output_after, output_figures, proposals_in, slack_on_arrival, slacks}
pub use Rattle.cq_laws.specs.Places.{AllBefore, Crossed, HasFor, IsMostUrgentFor, NoKeyTwice, Waiting}
pub use Rattle.cq_laws.specs.Records.{gone_in}
unfoldable pub use Rattle.cq_laws.specs.Records.{transfers_in, transfers_of_run}
pub use Rattle.cq_laws.specs.Slack.{EachArrivesOrFalls, EachFalls, Falls}
pub use Rattle.cq_laws.specs.SlotBySlot.{AfterBy, AreAlso, GoOn, HasParts, RunBy, StopBy, WholeBy}
pub use Rattle.cq_laws.specs.Terms.{ActAlikeFromEmptyWithoutLimits, ActAlikeWithoutLimits, Agrees, AreForPorts, Arrival, Arrives, BeginsWhole, Cell, Departs, EachArrivesOr, EachIsWhole, EachRises, EndsAlike, Fabric, FabricRun, FabricSlot, FabricStops, Figures, FirstsCanCross, FitsList, HasMoreSlack, HasSlack, IdealState, IsAmong, IsEmptyFabric, IsFabric, IsFault, IsForSwitch, IsInputBest, IsLimitedFault, IsOneRun, IsRunOfRecorded, IsStable, IsWholeFabric, LimitedEndsAlike, LimitedFabricRun, LimitedFabricSlot, LimitedFabricStops, LimitedRecord, LimitedWholeRun, ListsKeepOrder, Machine, Marked, Partners, Queued, SlotRecord, TagFault, Transfers, WholeRun, admissions_in, buffer, came_to, cushion_of, empty_fabric, empty_limited_fabric, fabric_admission, first_come_all, for_output1, from_input2, ideal_held, idled_for, input, least_slack, list_arrived, no_arrivals, passed, place_of_arrival, quiet_slots, slots_in, three, three_empty, three_slots, worked_records}
pub use Rattle.cq_base.proofs.Putting.{length_put}
pub use Rattle.cq_base.proofs.Each.{all_front}
pub use Rattle.cq_base.specs.{declared.cell.Transfer.Transfer}
pub use Rattle.cq_base.proofs.Having.{all_from_has, all_of_has, has_cases, has_kept, has_left, has_right, has_there, kept_has, none_had, stands_at}
pub use Rattle.cq_base.proofs.Pooled.{pairs_joined, pairs_kept_with, same_pairs}
pub use Rattle.cq_ideal.proofs.Waiting.{length-filled}
pub use Rattle.cq_ideal.proofs.{Came.ranks_kept, Parted.all_slots, LastSlot.slots_of-append, LastSlot.last_departs, LimitedEnds.no_departures, Packets.whole_packets}
pub use Rattle.cq_ideal.specs.{LimitedEnding.LimitedIdealAfter, WholePackets.AreJudged}
pub use Rattle.cq_prefs.proofs.{Best.one_input_best, LeastFirst.input_best-best, OutputOrder.is_output_order}
