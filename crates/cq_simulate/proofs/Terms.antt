-- The words of this crate's proofs that stand elsewhere, each passed on from its place.
pub use Rattle.cq_base.proofs.Library.{All, All-from_recursion, All-push, AllByRecursion, AllPairs, Bool, Err, IfErr-weaker, IfOk-weaker, IfSome, IsTrue, List, None, Ok, Option, Result, Some, [], and_from, and_left, and_parts, and_right, ap, append-nil, append_assoc, arith, cases_eq, cases_lt, common_steps, cond, cond-false, cond-true, cond_both, cons_option, div_ceil_times, drop, drop_all, drop_more, enumerate_from, eq-eqb, eqb-true, err_from_is_err_and, false, filter, filter-append, filter_agree, filter_map, flat_map, flat_map-append, fold, get_or, get_or-map, get_or-map-range_with_len, get_or-replicate, get_or-set_other, get_or-set_same, get_or_default, get_or_from_slice_get, get_or_past, if◌then◌else◌, inl, is_some, le-leb, le-ltb, leb-false, length, length-append, length-drop, length-filter, length-filter_both, length-insert, length-map, length-map-range_with_len, length-replicate, length-set, list_any, lt-leb, lt-ltb, ltb-true, map, map-append, max, min, mul-le-mul, nat_lt, ne_eqb, nil_from_length, not, range_with_len, recursion_from_All, refl, replicate, rules, set, slice_get_within, slice_index, slice_index_or, suc, sum, sum-map, sum_by, sum_by-cons, sum_by-le, sym, take, take-add, take-append-le, take_all, take_min, true, unwrap_or, vec_len, zero, ℕ, ◌&&◌, ◌*◌, ◌++◌, ◌+◌, ◌-◌, ◌<◌, ◌==◌, ◌^◌, ◌↔◌, ◌∙◌, ◌∷◌, ◌≡◌, ◌≢◌, ◌≤◌}
pub use Rattle.cq_base.specs.Arrivals.{arrival_at, no_arrivals}
pub use Rattle.cq_base.specs.Arriving.{Arrival, arriving_at, end_of}
unfoldable pub use Rattle.cq_base.specs.Arriving.{arriving, enough, traffic_of}
pub use Rattle.cq_base.specs.Cells.{IsBefore, is_for}
pub use Rattle.cq_base.specs.Items.{EachPair, Has}
pub use Rattle.cq_base.specs.Limits.{most_ports}
pub use Rattle.cq_base.specs.{Packed.unpacked, Room.RoomView, declared.cell.Departure.Departure, declared.cell.Queued.Queued, declared.cell.TagFault.TagFault, declared.cell.Transfer.Transfer, declared.figures.Figures.Figures, declared.setup.Setup.Setup}
pub use Rattle.cq_pcap.specs.Captured.{Captured, longest_body, rows_from}
pub use Rattle.cq_route.specs.Route.{route}
pub use Rattle.cq_cells.proofs.Packets.{came_more, few_by, length_packet, row_of, rows_are}
pub use Rattle.cq_cells.proofs.Pieces.{cells_above, piece_begins}
pub use Rattle.cq_cells.proofs.Rising.{at_input, traffic_is}
pub use Rattle.cq_cells.specs.Schedule.{arrivals_of, packet_at, packets_of, start}
unfoldable pub use Rattle.cq_cells.specs.Schedule.{arrivals, arrivals_at, cell_of, cells}
pub use Rattle.cq_cells.specs.Scheduled.{Scheduled, schedule_of}
pub use Rattle.cq_cells.specs.Traffic.{IsLater, IsTraffic, is_from, is_to, number_of}
pub use Rattle.cq_rank.specs.Machine.{KeepsLaws, Machine, first_come, machine_at}
pub use Rattle.cq_rank.specs.Switch.{class_count}
pub use Rattle.cq_scfq.specs.Discipline.{machine_from}
pub use Rattle.cq_scfq.specs.Disciplines.{machine_of, machines_of, openings_of}
pub use Rattle.cq_ideal.proofs.AtInput.{come_in_order, comes_at_input, comes_from, line_at, rest_of}
pub use Rattle.cq_ideal.proofs.Counting.{counts_fit, none_counted, zero_fits, counts_more, each_once}
pub use Rattle.cq_ideal.proofs.Parted.{all_slots, none_waits, nothing_left, arriving_here, arriving_length, arriving_parts, departures_append}
pub use Rattle.cq_ideal.proofs.FlowCount.{come_count-first, come_count-traffic_of, none_after, all_found, all_present}
unfoldable pub use Rattle.cq_ideal.proofs.FlowCount.{found}
pub use Rattle.cq_ideal.proofs.FlowStands.{NoLater, HasWaited, Stands, is_kind, is_of_flow, shown, AreOfClasses, present}
pub use Rattle.cq_ideal.proofs.FlowRun.{flow_came, no_port}
unfoldable pub use Rattle.cq_ideal.proofs.FlowRun.{come_count}
unfoldable pub use Rattle.cq_ideal.proofs.FlowStands.{of_flow}
pub use Rattle.cq_ideal.proofs.LimitedEnds.{limited_found_end, limited_same_sent, limited_whole_fault, run_as_before, slots_as_before}
pub use Rattle.cq_ideal.proofs.LimitedRuns.{is_run_of, judged, run_fault}
pub use Rattle.cq_ideal.proofs.Waiting.{counted, total_same}
unfoldable pub use Rattle.cq_ideal.proofs.Waiting.{total, waiting}
pub use Rattle.cq_ideal.specs.Admission.{Admission, Marked, NoLimits, admitted, is_first, nothing_refused, refused}
unfoldable pub use Rattle.cq_ideal.specs.Admission.{admission}
pub use Rattle.cq_ideal.specs.Ending.{first_slots, slots_of}
unfoldable pub use Rattle.cq_ideal.specs.Ending.{arriving_from}
pub use Rattle.cq_ideal.specs.Flows.{IsRunnable, RiseByInput, came_in_flow, comes_in_flow, leaves_in_flow, left_in_flow}
pub use Rattle.cq_ideal.specs.Ideal.{HaveLeft, IdealSwitch, answer_to, count_for, marked_state}
pub use Rattle.cq_ideal.specs.{Limiter.CanCount}
unfoldable pub use Rattle.cq_ideal.specs.IdealRun.{departures_of}
pub use Rattle.cq_ideal.specs.IdealSlot.{IdealState, ideal_slot}
pub use Rattle.cq_ideal.specs.LimitedEnding.{departures_limited, slots_of_limited_run}
unfoldable pub use Rattle.cq_ideal.specs.LimitedEnding.{whole_limited_run}
pub use Rattle.cq_ideal.specs.LimitedIdeal.{LimitedRan, LimitedSent, empty_limited, ideal_admission, with_admission}
unfoldable pub use Rattle.cq_ideal.specs.LimitedIdeal.{limited_run, limited_slot}
pub use Rattle.cq_ideal.specs.Ranking.{AreForPorts, ranking}
pub use Rattle.cq_ideal.specs.Refused.{refused_counts, refused_in}
unfoldable pub use Rattle.cq_ideal.specs.Refused.{packets_refused}
pub use Rattle.cq_ideal.specs.WholePackets.{AreJudged, AreOfPackets, came_at, cells_at}
pub use Rattle.cq_reasm.specs.Joining.{JoinerView, open_at}
pub use Rattle.cq_state.specs.{State.IsInRange, declared.state.Sent.Sent, declared.state.State.State}
pub use Rattle.cq_prefs.specs.FirstCells.{list_of, orders_of, output_order}
pub use Rattle.cq_prefs.specs.Pairing.{IsInputBest, IsMatching, IsStable, Partners, partner_of, proposals, spent}
pub use Rattle.cq_laws.proofs.{IdealOf.agrees_of, LimitedWhole.recorded}
pub use Rattle.cq_laws.proofs.InputBest.{stable_limited_slot, stable_limited_too, stable_slot}
pub use Rattle.cq_laws.proofs.EndsTogether.{limited_ends, one_limited_whole}
pub use Rattle.cq_laws.proofs.LimitedSlots.{admission_for_ports, same_limited_slot}
pub use Rattle.cq_laws.proofs.OneRun.{only_limited_run, outputs_at}
pub use Rattle.cq_laws.proofs.OneSlot.{after_sent, arrived, same_slot, slack_arrived}
pub use Rattle.cq_laws.proofs.Sound.{orders_are}
pub use Rattle.cq_laws.proofs.WholeRuns.{empty_list, empty_together}
pub use Rattle.cq_laws.specs.{Agreement.Agrees, Frozen.ideal_of, Records.gone_in}
pub use Rattle.cq_laws.specs.Fabric.{Fabric, IsEmptyFabric, IsFabric, input}
pub use Rattle.cq_laws.specs.FabricSlot.{FabricSlot, SlotRecord}
pub use Rattle.cq_laws.specs.Holding.{held_for}
unfoldable pub use Rattle.cq_laws.specs.Holding.{fabric_held}
pub use Rattle.cq_laws.specs.LimitedAgreement.{LimitedAgrees, LimitedEndsAlike, LimitedRunsAlike}
pub use Rattle.cq_laws.specs.LimitedFabric.{IsLimitedFault, LimitedFabricRun, LimitedFabricSlot, LimitedRecord, LimitedWholeRun, admissions_in, empty_limited_fabric, slots_in}
pub use Rattle.cq_laws.specs.Measures.{sends}
unfoldable pub use Rattle.cq_laws.specs.Measures.{figures_after, figures_of, output_after, proposals_in}
unfoldable pub use Rattle.cq_laws.specs.Records.{transfers_in, transfers_of_run}
pub use Rattle.cq_resume.proofs.{Coming.IsEarlier, Cut.filter_both, Joining.kept_both, Joining.kept_quiet, Judging.packets_alike, Scheduling.schedule_known}
pub use Rattle.cq_resume.proofs.Tallied.{LineStands, as_first, line_ends, mark_is, whole as is_line}
pub use Rattle.cq_resume.specs.Finding.{ArePackets, coming, has_limit, has_name, mark_on}
pub use Rattle.cq_resume.proofs.GoesOn.{GoesOn, buffer_is, came_before, comes, found_at, goes_on, in_buffer, in_list, in_order, is_cell_of, its_output, its_slot, list_is, of_traffic, ports_are, queued_differ, queued_named, some_cell}
pub use Rattle.cq_resume.specs.Counted.{departure_of, firsts_at, is_refused, latest, marks_told, sent_told, taken_of}
unfoldable pub use Rattle.cq_resume.specs.Counted.{figures_told, frozen_told}
pub use Rattle.cq_resume.specs.Resumed.{IsResumed, Kept, RunsOn, kept_on}
pub use Rattle.cq_resume.specs.Sound.{IsBelowFloor, IsSentBefore, IsSound, OfOneFlow}
pub use Rattle.cq_resume.specs.Switch.{HasShape, IsScheduleOf, Switch, switch_of}
pub use Rattle.cq_resume.specs.Told.{arriving_cell, class_of, is_ahead, is_named, key_of, named_in, output_of, queued_in, queued_of}
unfoldable pub use Rattle.cq_resume.specs.Told.{fabric_told}
pub use Rattle.cq_resume.specs.{declared.found.Name.Name, declared.taken.Taken.Taken}
pub use Rattle.cq_engine.specs.Engine.{CanGoOn, EngineView, HaveListRoom, IsMadeAs, IsReadyFor, SlotDone, fresh_engine, frozen_of, its_admission, marked_fabric}
pub use Rattle.cq_traffic.proofs.Arriving.{arrivals_for, slots_fit, arrives_before, none_up_to, quiet_of, quiet_slots, within_both}
pub use Rattle.cq_traffic.proofs.ToCome.{arrives_found, bit, first_more, from_here, no_more_from, one_if, some_one, come_for-traffic_of, for_here, no_more_to}
unfoldable pub use Rattle.cq_traffic.proofs.ToCome.{come_from, come_for}
pub use Rattle.cq_simulate.specs.FabricRuns.{AlwaysHasSlack, AreChosen, AreInputBest, AreStable, IsFabricRun, IsKeptOf, SendsSlotBySlot, departures_in_run, refused_in_run, unpacked_run}
pub use Rattle.cq_simulate.specs.GoingOn.{HasKept, IsReadyOn, IsRefusalOn, RanTo, StopsWithin, WentOn, kept_with, to_come}
unfoldable pub use Rattle.cq_simulate.specs.GoingOn.{fabric_listed}
pub use Rattle.cq_simulate.specs.IdealRuns.{IsRefusalOf, counts_limited, slots_ran}
unfoldable pub use Rattle.cq_simulate.specs.IdealRuns.{ideal_departures, ideal_refusals, ran_ideal}
pub use Rattle.cq_simulate.specs.Packets.{ArePacked, HaveLeftOf, LeaveInOrder, LeaveWhole, LeftInOrder, LeftInPackets, ends_packet_at, of_packet}
unfoldable pub use Rattle.cq_simulate.specs.Packets.{packets_out}
pub use Rattle.cq_simulate.specs.Pieces.{CanBeJoined, Fits, IsCaptured, IsEmptied, JoinsOn, Took, AllFit, left_with, records_of}
pub use Rattle.cq_simulate.specs.{declared.fabric_run.PackedFabricRun.PackedFabricRun, declared.refusal.RunRefusal.RunRefusal}
pub use Rattle.cq_simulate.specs.Terms.{AreTables, CanBeTakenUp, Cell, FabricRun, GoesOnFrom, IsFreshFor, IsQuiet, IsReady, IsScheduleFor, IsSetup, NoneCome, Tables, classes_of, kept_of, ports_of}
pub use Rattle.cq_base.proofs.Each.{all_both, all_filter, all_weaker, all_flat, all_made, filter_all, filter_none, of_images}
pub use Rattle.cq_base.specs.{declared.figures.OutputFigures.OutputFigures, declared.packed.PackedDeparture.PackedDeparture, declared.setup.Kind.Kind, declared.setup.Kind.TheVariants.FirstCome}
pub use Rattle.cq_base.proofs.Keys.{key_laws}
pub use Rattle.cq_pcap.proofs.Writing.{written_with}
pub use Rattle.cq_pcap.specs.{declared.capture.PacketRow.PacketRow, declared.write.OutPacket.OutPacket}
pub use Rattle.cq_base.proofs.Having.{all_from_has, all_has, all_of_has, any_alike, any_has, has_any, has_at, has_cases, has_image, has_kept, has_left, has_right, has_there, image_has, kept_has, pair_of_has}
pub use Rattle.cq_base.proofs.Pooled.{each_pair, has_looked_up, looked_up, pairs_joined, pairs_kept, pairs_kept_with, pairs_looked_up, pairs_mapped, pairs_with, same_pairs}
pub use Rattle.cq_cells.proofs.Stamps.{length-rows_from}
pub use Rattle.cq_ideal.proofs.EnoughSlots.{waiting-empty}
pub use Rattle.cq_ideal.proofs.{EachLeaves.each_leaves_or_is_refused, EachLeaves.refuses_none_elsewhere, FlowLaw.all_in_range, FlowLaw.class_in_slot, FlowLaw.none_came, FlowLaw.flow_on, FlowLaw.flows_leave_in_packets, FlowLaw.whole_on, LastSlot.slots_within, LastSlot.last_departs, LastSlot.limited_slots, AtInput.StandAt, AtInput.stand_in}
pub use Rattle.cq_ideal.specs.{EachOnce.KeepTheirOutput, EachOnce.LeaveOrAreRefused, OneSlot.CanHaveSlot, OneSlot.HasHadSlot, OneSlot.IsSameSwitch}
pub use Rattle.cq_reasm.specs.{Open.Open}
pub use Rattle.cq_state.specs.declared.state.Named.{Named}
pub use Rattle.cq_prefs.specs.Orders.{Orders}
pub use Rattle.cq_prefs.proofs.{InputOrder.OutputsInRange, InputOrder.are_offers, Places.outputs_at_most}
pub use Rattle.cq_laws.specs.{Frozen.fabric_in, Frozen.IsSoundFabric, LimitedQuiet.quiet_limited_slots, Phases.Transfers, Phases.came_to, Phases.list_arrived}
pub use Rattle.cq_laws.proofs.{ActingAlike.best_act_alike_from_empty, ActingAlike.best_act_alike, AddingUp.figures_fold, AfterPhases.came_from, EndsTogether.slots_of_figures, IdealOf.hold_as_many, IdealOf.nothing_for, Parted.all_go_on, Parted.departures_one, Parted.transfers_one, Sound.first_at, Parted.run_length, Parted.run_of_whole}
pub use Rattle.cq_resume.specs.Parts.{IsParted}
pub use Rattle.cq_engine.proofs.{Kept.limited_lists_kept, Kept.limited_outputs_kept}
