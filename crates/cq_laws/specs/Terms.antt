-- The terms of this crate's clauses, each passed on from where it is defined.
pub use Rattle.cq_base.specs.{Arrivals.no_arrivals, Cells.place_of_arrival, declared.cell.Cell.Cell, declared.cell.Queued.Queued, declared.cell.TagFault.TagFault, declared.figures.Figures.Figures}
pub use Rattle.cq_base.specs.Arriving.{Arrival, traffic_of}
pub use Rattle.cq_rank.specs.Machine.{Machine}
pub use Rattle.cq_ideal.specs.Admission.{Marked, NoLimits, admitted_in, marked, marks_down, unmarked, admission}
pub use Rattle.cq_ideal.specs.Ending.{first_slots, whole_ideal_run}
pub use Rattle.cq_ideal.specs.{Flows.IsForSwitch, IdealSlot.IdealState, LimitedExample.first_come_all}
pub use Rattle.cq_ideal.specs.IdealRun.{IsEmptyIdeal, empty_ideal, ideal_run}
pub use Rattle.cq_ideal.specs.LimitedEnding.{slots_of_limited_run, whole_limited_run}
pub use Rattle.cq_ideal.specs.LimitedIdeal.{empty_limited, admitted_traffic, ideal_admission, ideal_held}
pub use Rattle.cq_ideal.specs.Ranking.{AreForPorts, ranking}
pub use Rattle.cq_ideal.specs.WholePackets.{AreOfPackets, AreWholePackets, cells_at}
pub use Rattle.cq_prefs.specs.{FirstCells.orders_of, Moves.transfers_of}
pub use Rattle.cq_prefs.specs.Pairing.{IsStable, IsInputBest, Partners}
pub use Rattle.cq_laws.specs.Agreement.{ActAlikeFromEmptyWithoutLimits, ActAlikeWithoutLimits, Agrees, EndsAlike}
pub use Rattle.cq_laws.specs.Entering.{FirstsCanCross, FitsList}
pub use Rattle.cq_laws.specs.Example.{from_input2, for_output1, three, three_empty, three_slots, worked_figures, worked_records, worked_transfers}
pub use Rattle.cq_laws.specs.Fabric.{Fabric, empty_fabric, IsEmptyFabric, input, cushion_of, IsWholeFabric, ListsKeepOrder, IsAmong, IsFabric, buffer}
pub use Rattle.cq_laws.specs.FabricRun.{FabricRun, BeginsWhole, FabricStops, WholeRun, IsFault}
pub use Rattle.cq_laws.specs.FabricSlot.{SlotRecord, FabricSlot, EachIsWhole}
pub use Rattle.cq_laws.specs.Frozen.{IsSoundFabric, ideal_of}
pub use Rattle.cq_laws.specs.Holding.{fabric_held}
pub use Rattle.cq_laws.specs.LimitedAgreement.{ActAlike, ActAlikeFromEmpty, LimitedAgrees, LimitedEndsAlike}
pub use Rattle.cq_laws.specs.LimitedFabric.{LimitedFabricRun, LimitedRecord, empty_limited_fabric, IsRunOfRecorded, LimitedFabricSlot, LimitedFabricStops, LimitedWholeRun, admissions_in, fabric_admission, passed, slots_in, IsLimitedFault}
pub use Rattle.cq_laws.specs.LimitedQuiet.{quiet_limited_slot, quiet_limited_slots}
pub use Rattle.cq_laws.specs.Measures.{figures_of, figures_after, no_figures, slacks, either_by, least_slack, slack_on_arrival, HasMoreSlack}
pub use Rattle.cq_laws.specs.Phases.{Arrives, Departs, Transfers, came_to, list_arrived}
pub use Rattle.cq_laws.specs.Places.{NoKeyTwice, IsMostUrgentFor}
pub use Rattle.cq_laws.specs.Quiet.{idled, idled_for, AddNothing, KeepLaws, quiet_slot, quiet_slots}
pub use Rattle.cq_laws.specs.Records.{gone_in, transfers_of_run}
pub use Rattle.cq_laws.specs.Slack.{HasSlack, EachRises, EachArrivesOr, Falls, EachArrivesOrFalls, EachFalls}
pub use Rattle.cq_laws.specs.SlotBySlot.{AreAlso, GoOn, HaveParts, IsOneRun}
