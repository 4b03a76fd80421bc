-- The terms of this crate's clauses, each passed on from where it is defined.
pub use Rattle.cq_base.specs.Arrivals.{no_arrivals, arrival_at}
pub use Rattle.cq_base.specs.Arriving.{Arrival, enough, traffic_of, arriving, end_of}
pub use Rattle.cq_base.specs.Cells.{HasOtherKey, put}
pub use Rattle.cq_base.specs.Limits.{most_ports}
pub use Rattle.cq_base.specs.{declared.cell.Cell.Cell, declared.cell.TagFault.TagFault}
pub use Rattle.cq_rank.specs.Machine.{Machine, machine_at, told}
pub use Rattle.cq_rank.specs.Switch.{AreForOneSwitch, AreSized, class_count}
pub use Rattle.cq_ideal.specs.Admission.{Marked, NoLimits, admitted, held_after, is_full, mark_after, mark_at, marks_after, marks_down, refused, Admission, MarksDecide, RefusesNone}
pub use Rattle.cq_ideal.specs.EachOnce.{EachLeavesOrIsRefused, RefusesNoneElsewhere}
pub use Rattle.cq_ideal.specs.Ending.{IdealEnds, first_slots, slots_of, slots_of_run, whole_ideal_run}
pub use Rattle.cq_ideal.specs.Flows.{IsForSwitch, FlowsLeaveAsTheyCame}
pub use Rattle.cq_ideal.specs.{Fresh.fresh_ideal, LimitedFlows.FlowsLeaveInPackets, Rest.HasRested}
pub use Rattle.cq_ideal.specs.Ideal.{answer_to, its_slot, count_for, HaveLeft}
pub use Rattle.cq_ideal.specs.IdealRun.{Ran, departures_of, departures_ran, empty_ideal, ideal_run, IsEmptyIdeal}
pub use Rattle.cq_ideal.specs.IdealSlot.{IdealState, filled, fronts, idled}
pub use Rattle.cq_ideal.specs.LimitedEnding.{LimitedIdealEnds, departures_limited, slots_of_limited_run, whole_limited_run}
pub use Rattle.cq_ideal.specs.LimitedExample.{discard_admissions, discard_ran, discard_refused, discard_slots, first_come_all, limit_one}
pub use Rattle.cq_ideal.specs.LimitedIdeal.{LimitedRan, empty_limited, limited_run, unlimited, IsRunOfAdmitted, IsRunOfAll, LimitedRunIsWhole}
pub use Rattle.cq_ideal.specs.Limiter.{CanCount, ComeToPorts, HasPorts, held_without, where_up, HoldsLists, JudgesAsBefore}
pub use Rattle.cq_ideal.specs.OneSlot.{CanHaveSlot, HasHadSlot, IsSameSwitch, IsUnchanged}
pub use Rattle.cq_ideal.specs.Parts.{AreWithinRooms, CameToPorts, CanPut, HaveOwnKeys, HaveRoomFor, list_at, with_came, with_cell, given_at, level_at, rank_at, AreTold, FirstsHaveLeft, FitTogether}
pub use Rattle.cq_ideal.specs.Ranking.{AreForPorts, after_input, keyed, ranking}
pub use Rattle.cq_ideal.specs.Refused.{refused_counts, with_refused, AreAllZero, EachCountsOnce, refused_in, with_cells}
pub use Rattle.cq_ideal.specs.Taking.{CanTakeIn, HasJudged, HasTakenIn}
pub use Rattle.cq_ideal.specs.WholePackets.{CellsComeInOrder, RunsAdmitWholePackets, WholePacketsAreAdmitted}
