-- The terms of this crate's clauses, each passed on from where it is defined.
pub use Rattle.cq_base.specs.Arrivals.{no_arrivals}
pub use Rattle.cq_base.specs.Arriving.{arriving, end_of, arriving_at}
pub use Rattle.cq_base.specs.Limits.{longest_file, most_ports}
pub use Rattle.cq_base.specs.Pieces.{cells_of}
pub use Rattle.cq_pcap.specs.Captured.{Captured}
pub use Rattle.cq_route.specs.{Directory.IsDirectoryOf, Route.route, declared.tables.Tables.Tables}
pub use Rattle.cq_route.specs.Tables.{AreTables, classes_of, ports_of}
pub use Rattle.cq_cells.specs.{Coming.StandBelow, NextArrival.IsNextArrival, Scheduled.schedule_of}
pub use Rattle.cq_cells.specs.Lines.{AreOwn, all_of, AreAdded, AreRows, IsBegun, IsEnded, row_at, row_cell}
pub use Rattle.cq_cells.specs.Schedule.{earlier, t0_of, arrivals, arrivals_at, packets_of, packet_in}
pub use Rattle.cq_cells.specs.Traffic.{IsRecorded, IsShort, IsTraffic, is_from, is_to, number_of}
