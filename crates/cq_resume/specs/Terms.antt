-- The terms of this crate's clauses, each passed on from where it is defined.
pub use Rattle.cq_base.specs.Cells.{IsBefore, IsRising}
pub use Rattle.cq_base.specs.Limits.{most_classes, most_ports}
pub use Rattle.cq_route.specs.Tables.{AreTables, classes_of, ports_of}
pub use Rattle.cq_cells.specs.Traffic.{IsTraffic}
pub use Rattle.cq_rank.specs.{Machine.machine_at, Switch.AreSized}
pub use Rattle.cq_scfq.specs.Disciplines.{machine_of, machines_of}
pub use Rattle.cq_ideal.specs.{Ending.slots_of, Limiter.CanCount, Refused.with_refused}
pub use Rattle.cq_lines.specs.Transfers.{IsTransferBefore}
pub use Rattle.cq_state.specs.Refusals.{IsTooLong, longest_text}
pub use Rattle.cq_state.specs.State.{IsInRange, state_text}
pub use Rattle.cq_resume.specs.Counted.{IsTally, output_told, taken_of}
pub use Rattle.cq_resume.specs.Finding.{StandsBelow, FlowsStand, IsNameBefore, Leaves, IsAheadInFlow, flow_of, IsAheadInList, HasRoom, IsFound, IsNameNotAfter, IsGone, IsMissed, sent_name, told_of, waiting_name, BuffersStand, IsBufferedBefore, IsListedBefore, IsNoLaterInput, IsSentBefore, IsTimely, ListsStand, SentStand, ArePackets, PacketsStand, TalliesUp, coming, has_limit, has_name, mark_on, may_come, unnamed, SlackStands, cushion_in}
pub use Rattle.cq_resume.specs.{Laned.flow_goes_on, Laned.list_goes_on, Neighbours.IsOfNeighbours, Parts.IsOneParted, Parts.PartsJoin}
pub use Rattle.cq_resume.specs.Reading.{IsRead, IsReadExact, IsRefusal, named_as, seen_as, sent_as, state_of, text_of_taken, told_by}
pub use Rattle.cq_resume.specs.Resumed.{IsOneResumed}
pub use Rattle.cq_resume.specs.Sound.{AreArrivals, IsForPorts, IsOnlyFor, IsFirstOf, IsSound}
pub use Rattle.cq_resume.specs.Steps.{AreCellsFor, AreNamesFor, AreOrdered, HaveRoom, IsFirstOfTwo, AreFoundIn, StandBelow}
pub use Rattle.cq_resume.specs.Switch.{IsScheduleOf, switch_of, HasShape, IsHeadOf, Switch}
pub use Rattle.cq_resume.specs.Taking.{CanTakeUp, departed, figures_at_input, longer, with_departure}
