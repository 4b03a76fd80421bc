-- The words of this crate's proofs that stand elsewhere, each passed on from its place.
pub use Rattle.cq_base.proofs.Library.{All, All-from_recursion, All-permutation, All-replicate, AllAdjacentBelow, AllByRecursion, AllPairs, AllZip, Bool, Bor, Called, ComputesKey, FnReturnsAtPair, IfSome, IsDistinct, IsDistinct-IsPermutation, IsDistinct-from_apart, IsNonDecreasingBy, IsNonDecreasingBy-take, IsPartitionPoint, IsPartitionedBy-leb, IsPartitionedBy-ltb, IsPermutation, IsPermutation-sym, IsSome, IsSortedByKey, List, Mut, None, Option, Ordering, Some, YieldsList-from_map, YieldsList-from_slice, [], always_returns_same, and_from, and_left, and_parts, and_right, ap, apart_from_distinct, append-nil, append_assoc, arith, below_more, cases_Bool, cases_eq, cases_lt, common_steps, cond, drop, enumerate_from, eq-eqb, eqb, eqb-true, err_from_is_err_and, false, false_from_ne_true, filter, filter-append, filter_map, flat_map, flat_map-append, fold, get_or, get_or-drop, get_or-map, get_or-map-range_with_len, get_or-replicate, get_or-set_other, get_or-set_same, get_or-take, get_or_default, get_or_past, get_or_read, inl, inr, items_from_extend, le-leb, le-ltb, leb, leb-false, length, length-append, length-drop, length-enumerate_from, length-filter, length-map, length-map-range_with_len, length-replicate, length-take-le, list_any, list_any-IsPermutation, list_any_at, list_any_none, lt-leb, lt-ltb, ltb, ltb-true, map, map-append, map-id, map-range_with_len_more, nat_cmp, nat_lt, ne_eqb, not, option_map, ordering_then, range_with_len, recursion_from_All, refl, replicate, rules, set, slice_get, slice_get-get_or, slice_index_or, suc, sum_by-IsPermutation, sym, take, take-append-drop, take_all, take_more, tests, true, with_items_is, zero, ℕ, ◌&&◌, ◌*◌, ◌++◌, ◌+◌, ◌-◌, ◌<◌, ◌==◌, ◌^◌, ◌↔◌, ◌∙◌, ◌∷◌, ◌≡◌, ◌≢◌, ◌≤◌, ◌⊎◌, fill_by_all}
pub use Rattle.cq_base.specs.Arriving.{Arrival, arriving, arriving_at, end_of}
pub use Rattle.cq_base.specs.Cells.{IsBefore, IsRising, is_for}
pub use Rattle.cq_base.specs.Items.{EachPair, Has}
pub use Rattle.cq_base.specs.Limits.{most_classes, most_ports}
pub use Rattle.cq_base.specs.{declared.cell.Cell.Cell, declared.cell.Departure.Departure, declared.cell.Queued.Queued, declared.figures.OutputFigures.OutputFigures}
pub use Rattle.cq_route.specs.declared.tables.Tables.{Tables}
pub use Rattle.cq_cells.proofs.Ranges.{flat_same, range_more, set_one}
pub use Rattle.cq_cells.specs.Scheduled.{Scheduled}
pub use Rattle.cq_cells.specs.Traffic.{IsInRange as IsOfSwitch, IsTraffic, is_from, is_to, number_of}
pub use Rattle.cq_rank.specs.Machine.{Machine, machine_at}
pub use Rattle.cq_ideal.proofs.Counting.{all_counted_both, counts_fit, fewer_left, none_counted, zero_fits}
pub use Rattle.cq_ideal.specs.{Ending.slots_of, declared.refused.Refused.Refused}
unfoldable pub use Rattle.cq_ideal.specs.Ending.{arriving_from}
pub use Rattle.cq_ideal.specs.Refused.{refused_at, refused_in, with_refused}
unfoldable pub use Rattle.cq_ideal.specs.Refused.{cells_refused, packets_refused, refused_counts}
pub use Rattle.cq_state.specs.State.{IsInRange, IsNamed}
pub use Rattle.cq_state.specs.{declared.state.Named.Named, declared.state.Seen.Seen, declared.state.Sent.Sent, declared.state.State.State}
pub use Rattle.cq_laws.specs.Fabric.{Fabric, IsEmptyFabric, IsFabric, ListsKeepOrder, buffer, cushion_of, input}
pub use Rattle.cq_laws.specs.Frozen.{AreCountsOf, AreOwn, HasPorts, IsSoundFabric, fabric_in, marked_in}
pub use Rattle.cq_resume.specs.Counted.{IsTally, departure_of, input_told, latest, output_told, sent_told}
unfoldable pub use Rattle.cq_resume.specs.Counted.{figures_told, frozen_told}
pub use Rattle.cq_resume.specs.Finding.{AreFound, AreGone, ArePackets, ComeBehind, ComesNext, FlowsStand, InOneFlow, IsBufferedBefore, IsBufferedBefore as IsFoundBefore, IsFound, IsGone, IsLine, IsListedBefore, IsNameBefore, IsNameNotAfter, IsNoLaterInput, IsSentBefore, IsSentBefore as IsGoneBefore, IsTimely, IsTold, IsWholePacket, LeavesEarlier, PacketsStand, SlackStands, StandsBelow, TalliesUp, HasRoom, IsAheadInFlow, flow_of, coming, cushion_in, firsts_before, has_limit, has_name, is_left_out, left_out, mark_on, may_come, names_of, sent_name, told_of, unnamed, waiting_name}
pub use Rattle.cq_resume.specs.Sound.{AllNamed, AreArrivals, AreBelowFloors, AreWholePackets, Clause, HaveSlack, IsBelowFloor, IsFirstOf, IsFirstUnsound, IsForPorts, IsSound, KeepArrivalOrder, NoneNamed, OfOneFlow, StandInOrder}
pub use Rattle.cq_resume.specs.Steps.{AreCellsFor, AreNamesFor, AreOrdered, HaveRoom, IsCellFor, IsFirstOfTwo, AreFoundIn, StandBelow}
pub use Rattle.cq_resume.specs.Switch.{HasLimit, HasShape, IsScheduleOf, Switch, switch_of}
pub use Rattle.cq_resume.specs.Told.{arriving_cell, buffer_told, is_ahead, is_named, key_of, list_told, named_in, output_in, output_of, packet_before, queued_in, queued_of}
unfoldable pub use Rattle.cq_resume.specs.Told.{fabric_told}
pub use Rattle.cq_resume.specs.{declared.found.Found.Found, declared.found.Gone.Gone, declared.found.Name.Name, declared.packets.Tally.Tally, declared.refusal.StateRefusal.StateRefusal, declared.taken.Taken.Taken}
pub use Rattle.cq_resume.specs.Terms.{AreTables, CanCount, CanTakeUp, IsTransferBefore, classes_of, departed, figures_at_input, machine_of, machines_of, named_as, ports_of, with_departure}
pub use Rattle.cq_base.proofs.Each.{all_back, all_both, all_front, all_weaker, few_kept, filter_all, filter_none, images_held, of_images, counted_more}
pub use Rattle.cq_base.specs.{Arrivals.no_arrivals, declared.cell.TagFault.TagFault, declared.figures.InputFigures.InputFigures, declared.key.Key.Key, declared.setup.ClassRow.ClassRow, declared.setup.Kind.Kind, declared.setup.Kind.TheVariants.FirstCome, declared.setup.Setup.Setup}
pub use Rattle.cq_base.proofs.Keys.{key_laws}
pub use Rattle.cq_pcap.specs.Captured.{Captured}
pub use Rattle.cq_cells.specs.{NextArrival.ArrivesIn, NextArrival.IsNextArrival}
pub use Rattle.cq_cells.proofs.{Looked.piece, Packets.ends_before, Pieces.cells_above}
pub use Rattle.cq_rank.specs.{Classes.row_at, Switch.AreSized}
pub use Rattle.cq_ideal.proofs.{Admitted.no_arrivals_refuse_none, Parted.arriving_length, Parted.arriving_parts, Parted.quiet_from, Counting.counts_more}
pub use Rattle.cq_prefs.specs.Pairing.{IsInputBest}
pub use Rattle.cq_laws.proofs.{AddingUp.map-constant, Parted.all_go_on, Parted.departures_on, Parted.transfers_both, NothingRefused.none_come, NothingRefused.run_with, OneRun.only_limited_run, Parted.parts, Parted.run_length, QuietSlots.empty_is, QuietSlots.adds_nothing, QuietSlots.quiet_run, Sound.Apart, Sound.Early, Sound.all_before, Sound.differ_from}
pub use Rattle.cq_laws.specs.{Holding.held_for, Holding.waiting_for, LimitedFabric.IsLimitedFault, LimitedFabric.LimitedFabricSlot, LimitedFabric.LimitedRecord, LimitedFabric.admissions_in, LimitedFabric.slots_in, LimitedQuiet.quiet_limited_slots, Quiet.idled, Quiet.quiet_slots, SlotBySlot.GoOn, SlotBySlot.IsOneRun, SlotBySlot.RunBy, SlotBySlot.StopBy, declared.frozen.Frozen.Frozen}
pub use Rattle.cq_base.proofs.Having.{all_from_has, all_has, all_of_has, any_alike, has_all, has_at, has_cases, has_image, has_kept, has_left, has_right, has_there, image_has, kept_has, pair_of_has}
pub use Rattle.cq_base.proofs.Pooled.{AreApart, all_pairs, each_pair, image_at, kept_few, looked_few, looked_up, no_more, numbers_few, pairs_cross, pairs_kept_with, pairs_left, pairs_looked_up, pairs_mapped}
