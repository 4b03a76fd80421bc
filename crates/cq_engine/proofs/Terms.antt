-- The words of this crate's proofs that stand elsewhere, each passed on from its place.
pub use Rattle.cq_base.proofs.Library.{All, Bool, IfSome, List, None, Option, Some, [], ap, append-nil, append_assoc, arith, cases_lt, common_steps, cond_both, drop, enumerate_from, eq-eqb, eqb, ext_get_or, false, filter, filter_map, get_or, get_or-map, get_or-map-range_with_len, get_or-replicate, get_or-set_other, get_or-set_same, get_or_past, get_or_read, if◌then◌else◌, is_some, length, length-append, length-map, length-map-range_with_len, length-replicate, length-set, list_any, map, max, min, ne_eqb, option_map, position_or_len, range_with_len, reduce, refl, replicate, row_fits, rules, same_Some, set, slice_get, slice_get-get_or, slice_get_within, slice_set, subst, suc, sum-map, sum_by, sum_by-cons, sym, take, take_all, take_more, zero, ℕ, ◌*◌, ◌++◌, ◌+◌, ◌-◌, ◌<◌, ◌^◌, ◌∙◌, ◌∷◌, ◌≡◌, ◌≤◌, filter-append, slice_get_cases}
pub use Rattle.cq_base.specs.Cells.{KeysDiffer, is_for}
pub use Rattle.cq_base.proofs.Having.{all_from_has, has_there}
pub use Rattle.cq_base.specs.{Room.RoomView, declared.cell.Transfer.Transfer, declared.figures.Figures.Figures, declared.figures.InputFigures.InputFigures}
pub use Rattle.cq_base.specs.{declared.cell.Departure.Departure}
pub use Rattle.cq_rank.specs.Switch.{AreForOneSwitch, class_count}
pub use Rattle.cq_ideal.specs.Admission.{admitted, marks_after, refused}
pub use Rattle.cq_ideal.specs.Ideal.{HaveLeft}
pub use Rattle.cq_ideal.specs.IdealSlot.{all_told, departures_from, fronts, rests}
unfoldable pub use Rattle.cq_ideal.specs.IdealSlot.{departures_in}
pub use Rattle.cq_ideal.specs.Limiter.{CanCount, LimiterView}
pub use Rattle.cq_ideal.specs.{Parts.RanksView, Refused.with_refused, Taking.CanTakeIn, Taking.HasJudged, Taking.HasTakenIn}
pub use Rattle.cq_ideal.proofs.{Admitted.admitted_arrives, Admitted.admitted_for_ports, Resting.length-idle, Sending.length-told, Slot.by_marks}
pub use Rattle.cq_prefs.specs.FirstCells.{list_of, orders_of, output_order}
pub use Rattle.cq_prefs.specs.Moves.{Moves, list_taken}
unfoldable pub use Rattle.cq_prefs.specs.Moves.{transfers_of}
pub use Rattle.cq_prefs.specs.Orders.{IsListed, Orders, outputs_of, ports}
pub use Rattle.cq_prefs.specs.Pairing.{IsFreeOutput, IsInputBest, IsStable, Partners, partner_of, partner_place, proposals}
pub use Rattle.cq_prefs.proofs.{ByKey.some_of, Holding.none_unless, InputOrder.outputs_at, Members.among, Members.place_head}
pub use Rattle.cq_xbar.proofs.Noting.{kept_more}
pub use Rattle.cq_laws.proofs.InputBest.{stable_limited_slot, stable_slot}
pub use Rattle.cq_laws.proofs.WholeRuns.{empty_agree, no_place}
pub use Rattle.cq_laws.specs.Fabric.{Fabric, IsAmong, IsEmptyFabric, buffer, cushion_of, empty_fabric, input}
pub use Rattle.cq_laws.specs.Holding.{fabric_held, waiting_for}
pub use Rattle.cq_laws.specs.Measures.{either_by, no_figures}
unfoldable pub use Rattle.cq_laws.specs.Measures.{figures_after, input_after, output_after, proposals_in, slack_on_arrival, slacks}
pub use Rattle.cq_laws.specs.Phases.{came_to}
pub use Rattle.cq_laws.specs.{Agreement.SendsAlike, Places.NoKeyTwice, Places.Waiting, declared.frozen.Frozen.Frozen}
pub use Rattle.cq_laws.proofs.{IdealOf.agrees_of, LeastSlack.more_at_first, LeastSlack.by_arrivals, LeastSlack.more_after, QuietSlots.empty_is}
pub use Rattle.cq_fabric.proofs.Changed.{IsChangedTo, at-by_place, length-by_place, next_changed, next_kept, still_few}
pub use Rattle.cq_fabric.proofs.Known.{AreRanked, BuffersHaveRoom, HaveArrived, HaveJudged, HaveMoved, HaveSent, ListsHaveRoom}
pub use Rattle.cq_fabric.proofs.Limits.{admits_are, admitted_room, held_at, held_long, holds_first, numbers_fit, still_holds}
pub use Rattle.cq_fabric.proofs.Rested.{rested_agrees, rested_limited_run, still_held}
pub use Rattle.cq_fabric.proofs.Slot.{alike, arrive, came_newest, came_outputs, can_cross_first, can_cross_second, come, come_apart, depart, few_cross, fill, fits_lists, held_before, keyed, recorded}
pub use Rattle.cq_fabric.specs.Held.{HoldsFabric}
pub use Rattle.cq_fabric.specs.Queues.{Queues, fabric_of}
pub use Rattle.cq_fabric.specs.{Holding.CanHold, Released.HasReleased}
pub use Rattle.cq_engine.specs.Engine.{CanGoOn, CountsFit, EngineView, IsInStep, IsReadyFor, IsRunning, IsSeen, SlotDone, ports_of}
pub use Rattle.cq_engine.specs.Measuring.{arriving_slack, slack_seen}
unfoldable pub use Rattle.cq_engine.specs.Measuring.{input_counted, output_counted}
pub use Rattle.cq_engine.specs.Straight.{AreApart, AreSent, GoStraight, input_passed}
unfoldable pub use Rattle.cq_engine.specs.Straight.{crossings}
pub use Rattle.cq_engine.specs.declared.measure.Look.{Look}
pub use Rattle.cq_engine.specs.Terms.{AreForPorts, Cell, FabricSlot, Machine, OutputFigures, Queued, SlotRecord, fabric_in}
