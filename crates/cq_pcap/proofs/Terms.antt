-- The words of this crate's proofs that stand elsewhere, each passed on from its place.
pub use Rattle.cq_base.proofs.Library.{All-push, AllByRecursion, Bool, Decides, Decides-and, Decides-eqb, Decides-like, Err, IfErr-weaker, IfOk-weaker, IfSome, List, None, Ok, Option, Result, Some, [], add-zero, ap, append-nil, append_assoc, arith, be_bytes_4, bytes_eq-Decides, common_steps, drop, drop-append-le, drop-drop, drop_at, false, flat_map, flat_map-append, get_or, get_or-drop, inl, inr, le_bytes_4, length, length-append, length-drop, length-take-le, map, map-append, nat_tests, refl, rules, slice_index, subst, suc, sum_by, sum_by-cons, sum_by_push, sym, take, take-append-drop, take-append-le, take_all, take_at, take_more, take_rest, true, zero, ℕ, ◌%◌, ◌*◌, ◌++◌, ◌+◌, ◌-◌, ◌<◌, ◌^◌, ◌∙◌, ◌∷◌, ◌≡◌, ◌≤◌, ◌⊎◌, ⊎_elim, cases_lt, flat_map-map, get_or_append_left, get_or_past}
pub use Rattle.cq_pcap.specs.Captured.{Captured, file_length, longest_body, rows_from}
pub use Rattle.cq_pcap.specs.Faults.{IsFaulty, IsSpeltUpTo, fault_of}
pub use Rattle.cq_pcap.specs.declared.read.PcapRefusal.TheVariants.{CutBody, CutHeader, LongRecord, NoMemory}
pub use Rattle.cq_pcap.specs.Form.{bytes_in, number_in, unit}
unfoldable pub use Rattle.cq_pcap.specs.Form.{form_at, number_at}
pub use Rattle.cq_pcap.specs.Reading.{has_link_type, has_version, packets_in, ◌>>=◌}
unfoldable pub use Rattle.cq_pcap.specs.Reading.{first_packet, header_form, packets_from, packets_of}
pub use Rattle.cq_pcap.specs.Record.{Fits, HasLinkType, HasMagic, HasVersion, IsHeader, Record, Spells, SpellsIn, captured_of, spelling}
pub use Rattle.cq_pcap.specs.Rows.{AreRowsOf, AreRowsTo, AreSpelt, IsFaultAt, IsRowOf, offset_of, packet_at, packets_at}
pub use Rattle.cq_pcap.specs.Written.{IsWritable, read_again, record_of, written, written_header, written_record}
pub use Rattle.cq_pcap.specs.{declared.form.Form.Form, declared.read.PcapRefusal.PcapRefusal, declared.write.OutPacket.OutPacket}
pub use Rattle.cq_base.proofs.Each.{all_both}
