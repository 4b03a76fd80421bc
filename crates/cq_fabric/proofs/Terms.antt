-- The words of this crate's proofs that stand elsewhere, each passed on from its place.
pub use Rattle.cq_base.proofs.Library.{All, All-from_recursion, AllByRecursion, Bool, FnReturnsAt, IfSome, List, None, Ok, Option, Some, [], ap, arith, cases_eq, cases_lt, common_steps, cond, cond_both, drop, drop-drop, drop-set-lt, drop_all, enumerate_from, eq-eqb, eqb, eqb-true, ext_get_or, filter, get_or, get_or-enumerate_from, get_or-map, get_or-map-range_with_len, get_or-replicate, get_or-set_other, get_or-set_same, get_or_default, get_or_past, get_or_read, if◌then◌else◌, insert, is_some, length, length-drop, length-enumerate_from, length-insert, length-map, length-map-range_with_len, length-replicate, length-set, length-take-le, map, ne_eqb, not, position_or_len, refl, replicate, rules, same_Some, set, set-get_or, slice_get, slice_get-get_or, subst, suc, sym, take, take_all, take_more, take_more_set, true, zero, ℕ, ⊎_elim, ◌&&◌, ◌++◌, ◌+◌, ◌-◌, ◌<◌, ◌^◌, ◌∙◌, ◌∷◌, ◌≡◌, ◌≢◌, ◌≤◌, ◌⊎◌, reduce, slice_get_within, min, slice_get_cases, get_or_from_slice_get}
pub use Rattle.cq_base.proofs.Keys.{key_laws}
pub use Rattle.cq_base.proofs.Lists.{ahead_of_end, all_at, first_here, first_later}
pub use Rattle.cq_base.specs.Arrivals.{arrival_at, no_arrivals}
pub use Rattle.cq_base.specs.Cells.{ArrivedBefore, HasOtherKey, IsBefore, IsRising, KeepsOrder, MoreUrgentAhead, cushion, first_for, is_for, place_of_arrival, place_of_later, put, with_arrival, without_first}
pub use Rattle.cq_base.specs.Items.{EachPair}
pub use Rattle.cq_base.specs.Limits.{most_ports}
pub use Rattle.cq_base.specs.{Key.is_before, declared.cell.Cell.Cell, declared.cell.Queued.Queued}
pub use Rattle.cq_rank.specs.Machine.{Machine}
pub use Rattle.cq_ideal.proofs.Changed.{at_end, at_place, changed_to, item_inside, map_next, map_same, next_place, none_wait, seen_at, take_next}
pub use Rattle.cq_ideal.proofs.Counting.{each_once}
pub use Rattle.cq_ideal.specs.Admission.{Marked, admitted, marked, marks_after}
unfoldable pub use Rattle.cq_ideal.specs.Admission.{admission}
pub use Rattle.cq_ideal.specs.Ideal.{count_for}
pub use Rattle.cq_ideal.specs.IdealSlot.{IdealState, all_told, filled, fronts, rests}
unfoldable pub use Rattle.cq_ideal.specs.IdealSlot.{ideal_slot}
pub use Rattle.cq_ideal.specs.Limiter.{HoldsLists, JudgesAsBefore, LimiterView}
pub use Rattle.cq_ideal.specs.Ranking.{AreForPorts, Ranking, ranking}
pub use Rattle.cq_list.proofs.Runs.{whole}
pub use Rattle.cq_list.specs.InputList.{Waiting, cells_of}
pub use Rattle.cq_urgency.specs.OutputBuffer.{Buffered, cells_in}
pub use Rattle.cq_prefs.proofs.InputOrder.{are_orders, outputs_at}
pub use Rattle.cq_prefs.specs.FirstCells.{FirstKeysDiffer, HasCellFor, first_key, key_before, list_of, orders_of, output_order}
pub use Rattle.cq_prefs.specs.Moves.{Moves, list_taken}
pub use Rattle.cq_prefs.specs.Orders.{Orders, ports}
pub use Rattle.cq_prefs.specs.Pairing.{IsInputBest, IsMatching, IsStable, Partners, partner_of, with_pair}
pub use Rattle.cq_xbar.proofs.OneEach.{partner_or_free, without_length}
pub use Rattle.cq_xbar.proofs.Turns.{cells-at, cells_in-at}
pub use Rattle.cq_xbar.specs.Crossbar.{HaveCells, HaveRoom, MovesRoom, buffer_spare, list_at, list_spare, no_buffer, no_list}
pub use Rattle.cq_laws.proofs.AfterPhases.{came_cell, came_from, keyed_from}
pub use Rattle.cq_laws.proofs.AfterPhases.{rest_of}
pub use Rattle.cq_laws.proofs.Sound.{among_insert, from_first, was_waiting, Sound, not_before_itself}
pub use Rattle.cq_laws.specs.Agreement.{Agrees, SendsAlike}
pub use Rattle.cq_laws.specs.Fabric.{Fabric, IsAmong, IsEmptyFabric, cushion_of, empty_fabric, input}
pub use Rattle.cq_laws.specs.FabricSlot.{FabricSlot, SlotRecord}
pub use Rattle.cq_laws.specs.Holding.{held_for, waiting_for}
unfoldable pub use Rattle.cq_laws.specs.Holding.{fabric_held}
pub use Rattle.cq_laws.specs.LimitedFabric.{LimitedFabricRun, LimitedFabricSlot, LimitedRecord, fabric_admission}
pub use Rattle.cq_laws.specs.Measures.{either_by}
unfoldable pub use Rattle.cq_laws.specs.Measures.{slacks}
pub use Rattle.cq_laws.specs.Phases.{Arrives, Departs, Transfers, came_to, list_arrived}
pub use Rattle.cq_fabric.specs.Held.{HoldsFabric}
pub use Rattle.cq_fabric.specs.Queues.{AreSquare, CanCross, ComeApart, Comes, FitEach, FitLists, KeysApart, Queues, Queues as Held, buffer_room, fabric_of, front_of, list_room, list_with, popped}
pub use Rattle.cq_fabric.specs.Terms.{IsNewest}
pub use Rattle.cq_base.proofs.Putting.{length_put}
pub use Rattle.cq_ideal.proofs.{Admitted.admitted_at, Waiting.holds_filled, Sending.length-told, Sending.told_next, Slot.by_marks, Waiting.sent_from, Waiting.came_for}
pub use Rattle.cq_ideal.specs.IdealRun.{empty_ideal}
pub use Rattle.cq_prefs.proofs.{Changes.IsSameBut, Changes.same_list, Changes.same_but_arrival, Changes.same_but_taken, Changes.same_without, OutputOrder.is_output_order}
pub use Rattle.cq_prefs.specs.Renewal.{AreSameWithout}
pub use Rattle.cq_laws.proofs.WholeRuns.{empty_agree_at, empty_list}
pub use Rattle.cq_laws.proofs.{AfterPhases.Keyed, AfterPhases.arrived_sound, AfterPhases.came_or_was, AfterPhases.sent_sound, AfterPhases.moved_sound, IdealOf.hold_as_many, IdealOf.nothing_for, NothingRefused.none_come, NothingRefused.run_with, OneSlot.same_slot, OneSlot.sound_from, QuietSlots.empty_is, QuietSlots.quiet_run}
pub use Rattle.cq_laws.specs.{LimitedQuiet.quiet_limited_slots}
pub use Rattle.cq_base.proofs.Having.{all_from_has}
