-- The words of this crate's proofs that stand elsewhere, each passed on from its place.
pub use Rattle.cq_base.proofs.Library.{All-from_recursion, All-replicate, All-set, AllByRecursion, AllPairs, Bool, IsSome, List, None, Ok, Option, Some, [], and_from, and_parts, and_right, ap, append-nil, append_assoc, arith, cases_Bool, cases_eq, cases_lt, common_steps, cons_option, count_by, enumerate_from, eq-eqb, eqb, eqb-true, false, fill_by_all, filter, filter-append, filter_map, flat_map, fold, get_or-append-add, get_or-map, get_or-map-range_with_len, get_or-replicate, get_or-set_other, get_or-set_same, get_or_append_left, get_or_default, get_or_past, inl, inr, is_some, le-ltb, length, length-append, length-insert, length-map, length-map-range_with_len, length-replicate, length-set, list_any, lt-leb, lt-ltb, ltb-true, map, map-append, max, min, ne_eqb, not, option_map, range_with_len, recursion_from_All, refl, rules, same_Some, slice_get, slice_index_or, slice_set, suc, sum, sum_by, sum_by-append, sum_by-cons, sym, true, zero, ℕ, ⊎_elim, ◌&&◌, ◌*◌, ◌++◌, ◌+◌, ◌-◌, ◌<◌, ◌==◌, ◌^◌, ◌↔◌, ◌∙◌, ◌∷◌, ◌≡◌, ◌≢◌, ◌≤◌, ◌⊎◌, option_to_list}
pub use Rattle.cq_base.specs.{Arrivals.arrival_at, declared.cell.Cell.Cell, declared.cell.Departure.Departure, declared.cell.Queued.Queued, declared.cell.Transfer.Transfer}
pub use Rattle.cq_base.specs.Arriving.{Arrival, arriving_at}
unfoldable pub use Rattle.cq_base.specs.Arriving.{arriving}
pub use Rattle.cq_base.specs.Cells.{IsBefore, IsRising, is_for}
pub use Rattle.cq_base.specs.Items.{EachPair, Has}
pub use Rattle.cq_base.specs.Limits.{level_count, longest_file, most_classes, most_ports}
pub use Rattle.cq_route.specs.Tables.{AreTables}
pub use Rattle.cq_route.specs.declared.tables.Tables.{Tables}
pub use Rattle.cq_cells.specs.Scheduled.{Scheduled}
pub use Rattle.cq_cells.specs.Traffic.{IsRecorded, IsTraffic, is_from}
pub use Rattle.cq_rank.specs.Machine.{KeepsLaws, Machine, machine_at}
pub use Rattle.cq_scfq.specs.Disciplines.{machine_of, opening_of, openings_of}
pub use Rattle.cq_ideal.proofs.Admitted.{admitted_arrives, admitted_at, marks_kept}
pub use Rattle.cq_ideal.proofs.Came.{Came, came_from}
pub use Rattle.cq_ideal.proofs.{EnoughSlots.fewer, FlowStands.HasWaited}
pub use Rattle.cq_ideal.proofs.FlowStands.{after_input_ok, fits_ok, only_ok, present}
pub use Rattle.cq_ideal.proofs.FlowRun.{Served, served}
pub use Rattle.cq_ideal.specs.Admission.{Marked, held_after, mark_after, mark_at, marks_after}
unfoldable pub use Rattle.cq_ideal.specs.Admission.{admission}
pub use Rattle.cq_ideal.specs.{IdealRun.empty_ideal}
unfoldable pub use Rattle.cq_ideal.specs.Ending.{arriving_from}
unfoldable pub use Rattle.cq_ideal.specs.IdealRun.{departures_of}
pub use Rattle.cq_ideal.specs.IdealSlot.{IdealState, departures_from, filled, put_all}
unfoldable pub use Rattle.cq_ideal.specs.IdealSlot.{all_told, departures_in, ideal_slot}
pub use Rattle.cq_ideal.specs.Ranking.{AreForPorts, Ranking, ranking}
pub use Rattle.cq_ideal.specs.Refused.{refused_counts, refused_in, with_refused}
unfoldable pub use Rattle.cq_ideal.specs.Refused.{cells_refused, packets_refused}
pub use Rattle.cq_state.specs.State.{AreRankNumbers, IsCount, IsInRange, IsMoved, IsNamed, IsSeen, IsSent, state_text}
pub use Rattle.cq_state.specs.{declared.state.Named.Named, declared.state.Sent.Sent, declared.state.State.State}
pub use Rattle.cq_prefs.specs.FirstCells.{list_of}
pub use Rattle.cq_prefs.specs.Pairing.{IsInputBest, IsStable}
pub use Rattle.cq_laws.proofs.AfterPhases.{CameFor, Keyed, came_or_was}
pub use Rattle.cq_laws.proofs.LimitedWhole.{fabric_judged, limited_empty_agree}
pub use Rattle.cq_laws.proofs.Sound.{was_waiting, apart_from, never_both, not_before_itself}
pub use Rattle.cq_laws.proofs.OneSlot.{keyed, ports_kept, same_slot}
pub use Rattle.cq_laws.specs.Agreement.{Agrees, SendsAlike}
pub use Rattle.cq_laws.specs.Fabric.{Fabric, IsAmong, IsFabric, buffer, cushion_of, empty_fabric, input}
pub use Rattle.cq_laws.specs.FabricSlot.{FabricSlot, SlotRecord}
pub use Rattle.cq_laws.specs.Frozen.{fabric_in, marked_in}
unfoldable pub use Rattle.cq_laws.specs.Holding.{fabric_held}
pub use Rattle.cq_laws.specs.{Places.HasFor, Quiet.KeepLaws, Records.gone_in}
pub use Rattle.cq_laws.specs.LimitedFabric.{LimitedFabricSlot, LimitedRecord, admissions_in, slots_in}
pub use Rattle.cq_laws.specs.Measures.{sent_by, wait_at}
unfoldable pub use Rattle.cq_laws.specs.Measures.{figures_of, input_figures, output_figures, proposals_in, slacks}
pub use Rattle.cq_laws.specs.Phases.{came_to}
pub use Rattle.cq_resume.proofs.GoesOn.{Differ, cell_with, found_at}
pub use Rattle.cq_resume.specs.Counted.{IsTally, input_told, output_told, sent_told, taken_of}
unfoldable pub use Rattle.cq_resume.specs.Counted.{figures_told, frozen_told}
pub use Rattle.cq_resume.specs.Finding.{ArePackets, ComeBehind, IsLine, coming, has_limit, has_name, mark_on, unnamed}
pub use Rattle.cq_resume.specs.Parts.{IsParted, IsWhole, opening}
pub use Rattle.cq_resume.specs.Reading.{IsRead, named_as, seen_as, sent_as}
unfoldable pub use Rattle.cq_resume.specs.Reading.{state_of}
pub use Rattle.cq_resume.specs.Resumed.{Kept, Runs}
pub use Rattle.cq_resume.specs.Sound.{AreArrivals, AreBelowFloors, AreWholePackets, HaveSlack, IsBelowFloor, IsBufferedBefore, IsSentBefore, KeepArrivalOrder, OfOneFlow, StandInOrder}
pub use Rattle.cq_resume.specs.Switch.{HasShape, IsScheduleOf, Switch, switch_of}
pub use Rattle.cq_resume.specs.Terms.{IsTransferBefore}
pub use Rattle.cq_resume.specs.Told.{arriving_cell, buffer_told, class_in, class_of, is_ahead, list_told, named_in, output_in, output_of, queued_in, queued_of}
unfoldable pub use Rattle.cq_resume.specs.Told.{fabric_told}
pub use Rattle.cq_resume.specs.declared.taken.Taken.{Taken}
pub use Rattle.cq_stopped.specs.Stopped.{AreRecorded, CanBeTakenUp, StoppedRunsAreSound, told_state}
pub use Rattle.cq_audit.proofs.Noted.{FitsLine, range_rises, written_in_run}
pub use Rattle.cq_base.proofs.Each.{all_both, all_weaker, few_kept, of_images, all_give, all_made, filter_all, filter_none}
pub use Rattle.cq_base.specs.{declared.figures.InputFigures.InputFigures, declared.key.Key.Key, declared.setup.ClassRow.ClassRow, declared.setup.Kind.Kind, declared.setup.Kind.TheVariants.FirstCome}
pub use Rattle.cq_pcap.specs.Captured.{Captured}
pub use Rattle.cq_cells.proofs.{Packets.few_by}
pub use Rattle.cq_cells.specs.NextArrival.{ArrivesIn}
pub use Rattle.cq_rank.proofs.Floors.{given_floor}
pub use Rattle.cq_laws.proofs.AddingUp.{figures_fold}
pub use Rattle.cq_ideal.proofs.Waiting.{length-filled}
pub use Rattle.cq_base.proofs.Having.{all_from_has, all_of_has, any_has, has_all, has_any, has_cases, has_image, has_kept, has_left, has_right, has_there, image_has, kept_has, pair_of_has}
pub use Rattle.cq_base.proofs.Pooled.{AreApart, all_pairs, each_pair, has_number, no_more, pairs_cross, pairs_joined, pairs_kept, pairs_left, pairs_mapped, pairs_right, pairs_with}
pub use Rattle.cq_laws.proofs.{EndsTogether.slots_of_figures, LimitedWhole.recorded}
pub use Rattle.cq_ideal.proofs.EnoughSlots.{waiting-empty}
pub use Rattle.cq_ideal.proofs.{FlowCount.come_count-first, FlowLaw.all_in_range, Packets.refused_here, Parted.arriving_length, Counting.counts_more}
pub use Rattle.cq_ideal.specs.{Limiter.where_up, declared.refused.Refused.Refused}
pub use Rattle.cq_state.specs.declared.state.Seen.{Seen}
pub use Rattle.cq_laws.proofs.{AfterPhases.rest_of, IdealLists.among_put_all, IdealLists.list_after, IdealLists.put_all_keeps, IdealLists.put_all_new, IdealLists.rising_put_all, InputBest.stable_slot, InputBest.stable_limited_too, LimitedSlots.admission_for_ports, WholeRuns.empty_list}
pub use Rattle.cq_resume.proofs.{Coming.is_between, Coming.one_comes, Judging.packets_alike, Judging.tally_is, Scheduling.schedule_known, Tallied.whole, Adding.all_stand, Adding.tallies_up, Coming.cells_in}
pub use Rattle.cq_resume.specs.declared.found.Name.{Name}
pub use Rattle.cq_traffic.proofs.{Arriving.arrivals_for, Arriving.place_of}
pub use Rattle.cq_simulate.proofs.{Steps.all_wait, FabricLaws.AreNumbered}
pub use Rattle.cq_simulate.proofs.{OfPackets.small_cells, EachPacket.all_arriving, EachPacket.all_judged, FabricLaws.limited_numbered, OfPackets.keeps_laws, OfPackets.kind, OfPackets.machine_is, OfPackets.right_classes, OfPackets.right_size, ResumedWhole.as_name, ResumedWhole.has_as_name, OfPackets.filter_images, OfPackets.kinds_summed, OfPackets.tests_turned}
pub use Rattle.cq_simulate.specs.{FabricRuns.IsFabricRun}
