-- The terms of this crate's clauses, each passed on from where it is defined.
pub use Rattle.cq_base.specs.{Arrivals.arrival_at, Cells.is_for, declared.cell.Cell.Cell, declared.cell.Queued.Queued, declared.figures.OutputFigures.OutputFigures}
pub use Rattle.cq_base.specs.Limits.{most_ports}
pub use Rattle.cq_rank.specs.{Machine.Machine, Switch.class_count}
pub use Rattle.cq_ideal.specs.{Admission.Marked, Ideal.answer_to, Ideal.count_for}
pub use Rattle.cq_ideal.specs.IdealSlot.{departures_in, fronts, rests}
pub use Rattle.cq_ideal.specs.Ranking.{AreForPorts, ranking}
pub use Rattle.cq_prefs.specs.{FirstCells.list_of, Pairing.IsInputBest}
pub use Rattle.cq_laws.specs.Fabric.{IsAmong, input, IsEmptyFabric, Fabric}
pub use Rattle.cq_laws.specs.FabricSlot.{SlotRecord, FabricSlot}
pub use Rattle.cq_laws.specs.{Frozen.fabric_in, Phases.came_to}
pub use Rattle.cq_laws.specs.Holding.{fabric_held, held_for}
pub use Rattle.cq_laws.specs.LimitedFabric.{LimitedFabricSlot, LimitedRecord}
pub use Rattle.cq_laws.specs.Measures.{no_figures, either_by, slacks}
pub use Rattle.cq_fabric.specs.{Newest.IsNewest, Queues.fabric_of}
pub use Rattle.cq_engine.specs.Crossing.{CanBeCrossed, HasCrossed}
pub use Rattle.cq_engine.specs.Engine.{CanBeMade, CanGoOn, HasGoneOn, HasStopped, IsMadeAs, IsReadyFor, SlotDone, fresh_engine, frozen_of, its_admission, ports_of, thawed_engine}
pub use Rattle.cq_engine.specs.Measuring.{output_counted, arriving_slack, input_counted, slack_seen}
pub use Rattle.cq_engine.specs.Resting.{HasRested}
pub use Rattle.cq_engine.specs.Sending.{CanSend, EachHasSent}
pub use Rattle.cq_engine.specs.Straight.{AreApart, AreSent, CanGoStraight, GoStraight, crossings, input_passed}
