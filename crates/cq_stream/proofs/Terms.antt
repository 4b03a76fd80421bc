-- The words of this crate's proofs that stand elsewhere, each passed on from its place.
pub use Rattle.cq_base.proofs.Library.{List, None, [], append_assoc, arith, common_steps, length, map, map-append, refl, rules, ℕ, ◌++◌, ◌-◌, ◌∷◌, ◌≡◌}
pub use Rattle.rtrb.specs.Ring.{SameConsumer, SameProducer, received, sent}
pub use Rattle.cq_pcap.specs.Rows.{AreRowsTo, AreRowsUntil}
pub use Rattle.cq_pcap.specs.declared.capture.PacketRow.{PacketRow}
pub use Rattle.cq_stream.specs.Stream.{HasRun, HasSent, all_sent, bytes_of, fault_found, items_of}
pub use Rattle.cq_stream.specs.{declared.item.Item.Item, declared.item.Item.TheVariants.Row}
