-- The terms of this crate's clauses, each passed on from where it is defined.
pub use Rattle.cq_base.specs.{Arrivals.no_arrivals, declared.cell.Cell.Cell, declared.cell.Departure.Departure}
pub use Rattle.cq_base.specs.Arriving.{arriving, end_of, traffic_of, Arrival}
pub use Rattle.cq_base.specs.Limits.{most_classes, most_ports}
pub use Rattle.cq_pcap.specs.Captured.{Captured, longest_body}
pub use Rattle.cq_route.specs.Tables.{AreTables, IsSetup, classes_of, ports_of}
pub use Rattle.cq_route.specs.declared.tables.Tables.{Tables}
pub use Rattle.cq_cells.specs.{NextArrival.ArrivesIn, Scheduled.Scheduled, Scheduled.schedule_of}
pub use Rattle.cq_cells.specs.Traffic.{is_from, is_to, IsTraffic}
pub use Rattle.cq_cells.specs.Schedule.{arrivals, t0_of, packet_at}
pub use Rattle.cq_rank.specs.Machine.{Machine}
pub use Rattle.cq_scfq.specs.Disciplines.{machines_of, openings_of}
pub use Rattle.cq_engine.specs.Engine.{CanGoOn}
pub use Rattle.cq_ideal.specs.{Admission.NoLimits, Ending.slots_of, Ideal.marked_state, LimitedEnding.departures_limited, LimitedIdeal.limited_run}
pub use Rattle.cq_ideal.specs.WholePackets.{AreOfPackets, cells_at}
pub use Rattle.cq_reasm.specs.Joining.{IsOtherPair, open_after, open_at}
pub use Rattle.cq_prefs.specs.Pairing.{IsInputBest}
pub use Rattle.cq_laws.specs.Fabric.{IsEmptyFabric, Fabric}
pub use Rattle.cq_laws.specs.{FabricRun.FabricRun, FabricSlot.SlotRecord, Measures.figures_of}
pub use Rattle.cq_laws.specs.LimitedFabric.{LimitedRecord, slots_in}
pub use Rattle.cq_resume.specs.{Parts.IsParted, Resumed.IsResumed, Resumed.Kept, Switch.switch_of, declared.taken.Taken.Taken}
pub use Rattle.cq_traffic.specs.Stretch.{IsQuiet, IsQuietUntil, NoneCome}
pub use Rattle.cq_simulate.specs.{EachPacket.EachPacketOnce, Emulation.EmulatesIdeal, Ready.IsReady, ScheduleFor.by_port, ScheduleFor.IsScheduleFor}
pub use Rattle.cq_simulate.specs.FabricRuns.{IsKeptOf, unpacked_run, IsFabricRun, departures_in_run, refused_in_run}
pub use Rattle.cq_simulate.specs.FreshFabric.{ArePortsFor, GoesOnFrom, IsFreshFor, IsIdealFor}
pub use Rattle.cq_simulate.specs.GoingOn.{HasKept, HasRunOn, IsReadyOn, IsRefusalOn, HasPartedTo, IsIdle, IsReadyPart, StopsWithin}
pub use Rattle.cq_simulate.specs.IdealRuns.{ideal_departures, ideal_refusals, IsRefusalOf, slots_ran}
pub use Rattle.cq_simulate.specs.Packets.{HaveLeftOf, LeaveInOrder, packets_out, ArePacked}
pub use Rattle.cq_simulate.specs.PartedRuns.{CanBeTakenUp, IsPartFault, IsResumeFault, kept_of, taken_at}
pub use Rattle.cq_simulate.specs.Pieces.{Fits, IsCaptured, left_with, piece_at, CanBeJoined, IsEmptied, Took}
