-- The terms of this crate's clauses, each passed on from where it is defined.
pub use Rattle.cq_base.specs.Cells.{cushion}
pub use Rattle.cq_base.specs.Limits.{most_ports}
pub use Rattle.cq_ideal.specs.IdealSlot.{fronts, rests, all_told}
pub use Rattle.cq_list.specs.InputList.{cells_of}
pub use Rattle.cq_urgency.specs.OutputBuffer.{cells_in}
pub use Rattle.cq_prefs.specs.FirstCells.{first_key, key_before, list_of, orders_of}
pub use Rattle.cq_prefs.specs.Moves.{Moves, transfers_of}
pub use Rattle.cq_prefs.specs.Pairing.{IsMatching}
pub use Rattle.cq_xbar.specs.Crossbar.{HasTransferred, list_at}
pub use Rattle.cq_laws.specs.Measures.{either_by, slacks}
pub use Rattle.cq_laws.specs.Phases.{came_to, list_arrived}
pub use Rattle.cq_fabric.specs.Crossing.{CanCrossInPairs, CanFollow}
pub use Rattle.cq_fabric.specs.Holding.{CanHold, CanStand, CanWait}
pub use Rattle.cq_fabric.specs.{Newest.IsNewest, Released.HasReleased}
pub use Rattle.cq_fabric.specs.Queues.{front_of, popped, CanCross, ComeApart, Comes, FitEach, FitLists, Fits, buffer_room, fabric_of, list_room, list_with}
pub use Rattle.cq_fabric.specs.Telling.{AllAreTold}
