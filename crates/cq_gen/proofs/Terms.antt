-- The words of this crate's proofs that stand elsewhere, each passed on from its place.
pub use Rattle.rand_pcg.specs.{Lcg.Lcg, Pcg.pcg32}
pub use Rattle.cq_base.proofs.Library.{All, AllByRecursion, Bool, IsInRange, List, None, Ok, Option, Some, [], ap, append-nil, append_assoc, arith, cases_eq, common_steps, eq-eqb, false, find, flat_map, get_or-map-range_with_len, get_or-replicate, length, length-append, length-map, length-map-range_with_len, length-replicate, length_push, map, map-append, mod-lt, mul-le, ne_eqb, range_with_len, refl, replicate, rules, subst, suc, sym, true, zero, ℕ, ◌%◌, ◌*◌, ◌++◌, ◌+◌, ◌-◌, ◌/◌, ◌<◌, ◌^◌, ◌∙◌, ◌∷◌, ◌≡◌, ◌≤◌}
pub use Rattle.cq_base.specs.Limits.{most_ports, most_soak_slots}
pub use Rattle.cq_pcap.specs.Captured.{Captured}
pub use Rattle.cq_pcap.specs.Written.{IsWritable, read_again, record_of, written}
pub use Rattle.cq_route.specs.Tables.{AreTables, ports_of}
pub use Rattle.cq_gen.specs.Draws.{draw_for}
unfoldable pub use Rattle.cq_gen.specs.Draws.{first_draws, generator_of}
pub use Rattle.cq_gen.specs.Packets.{output_address, to_write}
unfoldable pub use Rattle.cq_gen.specs.Packets.{frame_of, packet_of, packets_to}
pub use Rattle.cq_gen.specs.Tables.{soak_address, soak_kind, soak_port, soak_rule, soak_setup}
unfoldable pub use Rattle.cq_gen.specs.Tables.{soak_tables}
unfoldable pub use Rattle.cq_route.specs.Plain.{plain_tables}
pub use Rattle.cq_base.proofs.Each.{counted_more, all_made}
pub use Rattle.cq_pcap.proofs.{SpeltIsRead.spelt_is_read, Writing.written_with, WrittenIsSpelt.written_is_spelt}
pub use Rattle.cq_pcap.specs.{Reading.packets_of, declared.write.OutPacket.OutPacket}
pub use Rattle.cq_route.specs.{declared.tables.RuleRow.RuleRow}
