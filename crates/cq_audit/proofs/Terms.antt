-- The words of this crate's proofs that stand elsewhere, each passed on from its place.
pub use Rattle.cq_base.proofs.Library.{AllByRecursion, Bool, Err, IfErr, IfSome, IsOk, List, None, Ok, OnOk, Option, Result, Some, [], and_left, and_parts, ap, append-nil, append_assoc, append_cancel_left, arith, cases_Bool, cases_eq, cases_lt, cases_order, common_steps, cond_both, drop, drop_more, eq-eqb, eqb-true, err_from_is_err_and, ext_get_or, filter, filter-append, filter_map, find-append, get_or, get_or-map, get_or-map-range_with_len, recursion_from_All, get_or-set_other, get_or-set_same, get_or-take, get_or_past, inl, inr, length, length-append, length-map, length-map-range_with_len, length-replicate, length-set, length-take-le, lit≤, lt-ltb, ltb-true, map, map-append, ne_eqb, not, option_map, position_or_len, range_with_len, refl, replicate, rules, slice_get, subst, suc, sym, take, take-append-drop, take-append-le, take-take, take_all, take_more, take_rest, true, zero, ℕ, ⊎_elim, ⊤, ◌*◌, ◌++◌, ◌+◌, ◌-◌, ◌<◌, ◌^◌, ◌∙◌, ◌∷◌, ◌≡◌, ◌≢◌, ◌≤◌, ◌⊎◌}
pub use Rattle.cq_base.proofs.Lists.{first_here, first_later}
pub use Rattle.cq_base.specs.Arrivals.{arrival_at, no_arrivals}
pub use Rattle.cq_base.specs.Arriving.{Arrival, arriving, end_of, enough}
pub use Rattle.cq_base.specs.Cells.{first_for}
pub use Rattle.cq_base.specs.Limits.{most_ports}
pub use Rattle.cq_base.specs.{Room.RoomView, Texts.log_line, declared.cell.Queued.Queued, declared.cell.TagFault.TagFault}
unfoldable pub use Rattle.cq_base.specs.Texts.{log_of}
pub use Rattle.cq_cells.specs.Scheduled.{Scheduled}
pub use Rattle.cq_cells.specs.Traffic.{IsTraffic, is_from, is_to, number_of}
pub use Rattle.cq_rank.specs.Switch.{AreForOneSwitch, class_count}
pub use Rattle.cq_ideal.proofs.Admitted.{admitted_arrives, admitted_for_ports}
pub use Rattle.cq_ideal.proofs.Parted.{arriving_length, arriving_parts}
pub use Rattle.cq_ideal.specs.Admission.{Marked, admitted, marked, marks_after, marks_down}
unfoldable pub use Rattle.cq_ideal.specs.Admission.{admission}
pub use Rattle.cq_ideal.specs.{Ending.first_slots, Ideal.count_for, LimitedEnding.whole_limited_run, LimitedIdeal.empty_limited}
unfoldable pub use Rattle.cq_ideal.specs.Ending.{arriving_from}
pub use Rattle.cq_ideal.specs.Ranking.{ranking}
pub use Rattle.cq_lines.proofs.Going.{SoFar, one_line_more}
pub use Rattle.cq_lines.specs.Texts.{Leads}
pub use Rattle.cq_audit.specs.Audit.{IsAuditExact, IsNo, IsReadNo, IsYes}
pub use Rattle.cq_audit.specs.Phase.{AllBehind, AreOfPhase, AreParted, AreRight, IsBlocking, IsFirstWrong, IsPhaseExact, IsPhaseFault, IsStableTold, IsWrongLine, NoneBefore, RiseByInput, first_id, in_phase, is_at, line_of_input, output_told}
unfoldable pub use Rattle.cq_audit.specs.Phase.{told}
pub use Rattle.cq_audit.specs.Replay.{CanCome, CanReplay, HasRested, IsInStep, IsMadeAs, IsSlotFault, ReplayView, SlotReplayed, ports_in, refusal_of, shown}
pub use Rattle.cq_audit.specs.StableRun.{Begins, BeginsFirst, IsFaultAt, Reaches, StableRun, before_slot}
pub use Rattle.cq_audit.specs.{declared.phase.PhaseFault.PhaseFault, declared.refusal.AuditRefusal.AuditRefusal, declared.replay.SlotFault.SlotFault}
pub use Rattle.cq_audit.specs.declared.refusal.AuditRefusal.TheVariants.{Left, Line, NoMemory}
pub use Rattle.cq_list.specs.InputList.{Waiting, cells_of}
pub use Rattle.cq_prefs.proofs.{Holding.none_unless, Members.among_range, OutputOrder.is_output_order, Pairs.nobody, Places.output_in_range, Places.place_in-le-length, Places.place_of-at, Places.same_at_place}
pub use Rattle.cq_prefs.specs.FirstCells.{list_of, orders_of, output_order}
pub use Rattle.cq_prefs.specs.Moves.{Moves, noted}
unfoldable pub use Rattle.cq_prefs.specs.Moves.{transfers_of}
pub use Rattle.cq_prefs.specs.Orders.{AreOffers, IsOffered, Orders, outputs_of, place_of, ports}
pub use Rattle.cq_prefs.specs.Pairing.{HasBetterInput, HasBetterOutput, IsFreeOutput, IsMatching, IsStable, Partners, partner_of, partner_place, with_pair}
pub use Rattle.cq_laws.proofs.OneRun.{offer_of, one_arrival, one_departure, one_transfer, outputs_at, same_record}
pub use Rattle.cq_laws.proofs.Parted.{reach, run_length, run_of_whole}
pub use Rattle.cq_laws.proofs.Told.{transfers_tell}
pub use Rattle.cq_laws.proofs.WholeRuns.{empty_agree, empty_list, empty_together}
pub use Rattle.cq_laws.specs.Fabric.{Fabric, IsEmptyFabric, input}
pub use Rattle.cq_laws.specs.FabricSlot.{FabricSlot, SlotRecord}
pub use Rattle.cq_laws.specs.LimitedFabric.{IsLimitedFault, LimitedFabricRun, LimitedFabricSlot, LimitedRecord, empty_limited_fabric, fabric_admission, slots_in}
pub use Rattle.cq_laws.specs.{LimitedQuiet.quiet_limited_slots, SlotBySlot.AfterBy}
pub use Rattle.cq_laws.specs.Phases.{Arrives, Transfers}
unfoldable pub use Rattle.cq_laws.specs.Records.{transfers_in, transfers_of_run}
pub use Rattle.cq_fabric.proofs.Limits.{admits_are, admitted_room, holds_first, numbers_fit, still_holds}
pub use Rattle.cq_fabric.specs.Queues.{ComeApart, FitLists, Queues, fabric_of}
pub use Rattle.cq_traffic.proofs.Arriving.{arrivals_for, one_found, slots_fit}
pub use Rattle.cq_traffic.proofs.ToCome.{arrives_found, come_from, first_more, from_here, from_last, no_more_from, one_if, some_one}
pub use Rattle.cq_traffic.proofs.Arriving.{quiet_of, quiet_slots}
pub use Rattle.cq_audit.specs.Terms.{AreInOrder, CanBeAudited, Cell, Comes, FirstIsLeast, IsLog, IsLogExact, IsLogFault, IsOf, IsOpened, IsReady, IsStill, IsStillUntil, IsTransfer, IsTransferBefore, Machine, RunEnds, Setup, Transfer, numbers_behind}
pub use Rattle.cq_base.proofs.Each.{all_both, all_front, all_weaker, all_back, all_give, all_made, filter_all, filter_none}
pub use Rattle.cq_base.specs.declared.cell.CellId.{CellId}
pub use Rattle.cq_scfq.specs.Discipline.{machine_from}
pub use Rattle.cq_ideal.proofs.{FlowCount.all_found, LimitedEnds.limited_parts, LimitedRuns.run_fault, Resting.length-idle, Sending.length-told, Slot.by_marks}
pub use Rattle.cq_ideal.specs.{IdealSlot.fronts, Limiter.ComeToPorts, Limiter.LimiterView, Parts.RanksView}
pub use Rattle.cq_lines.specs.{Lines.ending, Lines.BeginsWith}
pub use Rattle.cq_lines.proofs.{Spelling.one_number, Walk.ending_ends, Walk.one_ending}
pub use Rattle.cq_laws.proofs.{AfterPhases.came_from, IdealOf.nothing_for, InputBest.stable_limited_too, Parted.all_go_on, Parted.transfers_both, Parted.transfers_one, LimitedSlots.same_limited_fault, LimitedWhole.begin, LimitedWhole.same_limited_run, QuietSlots.quiet_transfers, AfterPhases.sender}
pub use Rattle.cq_laws.specs.{Agreement.SendsAlike, Holding.held_for, LimitedAgreement.LimitedAgrees, LimitedAgreement.LimitedRunsAlike, Quiet.idled}
pub use Rattle.cq_fabric.specs.Held.{HoldsFabric}
pub use Rattle.cq_fabric.proofs.{Kept.limited_lists_kept, Kept.limited_outputs_kept, Known.AreRanked, Known.BuffersHaveRoom, Known.HaveArrived, Known.HaveJudged, Known.HaveMoved, Known.HaveSent, Rested.rested_agrees, Rested.rested_limited_run, Rested.still_held}
pub use Rattle.cq_traffic.proofs.{ToCome.come_for, ToCome.for_here, ToCome.for_last, ToCome.no_more_to}
pub use Rattle.cq_base.proofs.{Having.all_from_has, Having.all_of_has, Pooled.looked_up, Pooled.pairs_looked_up, Pooled.pairs_joined}
pub use Rattle.cq_base.specs.Items.{EachPair, Has}
pub use Rattle.cq_laws.proofs.{AfterPhases.came_or_was, Sound.from_first, Sound.was_waiting}
