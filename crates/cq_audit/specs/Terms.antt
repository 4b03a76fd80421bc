-- The terms of this crate's clauses, each passed on from where it is defined.
pub use Rattle.cq_base.specs.Arriving.{end_of, Arrival}
pub use Rattle.cq_base.specs.Limits.{most_ports}
pub use Rattle.cq_base.specs.{Texts.log_line, declared.cell.Cell.Cell, declared.cell.Transfer.Transfer, declared.setup.Setup.Setup}
pub use Rattle.cq_cells.specs.Traffic.{is_from, is_to}
pub use Rattle.cq_traffic.specs.Rooms.{rooms_of}
pub use Rattle.cq_rank.specs.{Machine.Machine, Switch.AreForOneSwitch}
pub use Rattle.cq_ideal.specs.Admission.{Marked}
pub use Rattle.cq_lines.specs.{Refusals.IsCause, Transfers.IsTransferBefore}
pub use Rattle.cq_audit.specs.Audit.{CanBeAudited, IsNo, IsYes, IsAuditExact, unread}
pub use Rattle.cq_audit.specs.Crossing.{AreNoted, HaveCrossed}
pub use Rattle.cq_audit.specs.Log.{AreInOrder, IsLog, IsLogExact, IsLogFault, IsOf, IsTransfer, Comes, numbers_behind}
pub use Rattle.cq_audit.specs.{Pairs.CanBeJoined, StableRun.StableRun, declared.refusal.AuditRefusal.TheVariants.Left}
pub use Rattle.cq_audit.specs.Phase.{NoneBefore, IsBlocking, IsFirstBlocking, AreOfPhase, IsPhaseFault, IsPhaseExact, AreParted, is_at, IsStableTold, in_phase, AreRight, IsFirstWrong, first_id, told, RiseByInput}
pub use Rattle.cq_audit.specs.Replay.{HasRested, IsInStep, ports_in, CanCome, CanReplay, IsSlotFault, SlotReplayed, refusal_of, shown}
pub use Rattle.cq_audit.specs.Running.{FirstIsLeast, IsOpened, IsReady, IsStill, IsStillUntil, RunEnds}
pub use Rattle.cq_audit.specs.SlotSteps.{CanGoBy, CanSend, HasGoneBy, HaveAllSent, HaveCome}
pub use Rattle.cq_audit.specs.Trace.{IsTraceExact, DiffersFirst}
pub use Rattle.cq_list.specs.InputList.{cells_of}
pub use Rattle.cq_prefs.specs.FirstCells.{orders_of}
pub use Rattle.cq_prefs.specs.Orders.{AreOffers, IsOffered, outputs_of, ports, position_of}
pub use Rattle.cq_prefs.specs.Pairing.{HasBetterInput, partner_of, partner_place, IsStable, IsFreeOutput, with_pair}
pub use Rattle.cq_laws.specs.Fabric.{IsEmptyFabric, Fabric}
pub use Rattle.cq_laws.specs.LimitedFabric.{LimitedFabricRun, LimitedRecord, slots_in, empty_limited_fabric}
pub use Rattle.cq_laws.specs.Records.{transfers_of_run}
pub use Rattle.cq_fabric.specs.Queues.{CanCross}
