-- The words of this crate's proofs that stand elsewhere, each passed on from its place.
pub use Rattle.cq_base.proofs.Library.{AllByRecursion, Bool, Err, IfErr, IfOk, IfSome, IsErr, IsErrAnd, IsOk, IsOkAnd, IsTrue, List, MatchOption, None, Ok, Option, Result, Some, [], and_from, ap, append-nil, append_assoc, append_known, arith, bytes_eq-Decides, cases_eq, codes, common_steps, cond, drop, drop_all, drop_more, eq-eqb, eq_by_cmp_equiv, exact_bytes, false, filter, filter-append, flat_map, get, get-insert, get-remove, get_or, inl, inr, is_some, le-ltb, leb-true, length, length-append, length-drop, list_any, lt-ltb, map, nat_list_cmp_total, ne_eqb, nil_from_length, not_from_false, option_map, range_with_len, recursion_from_All, refl, replicate, rules, slice_index, string_bytes, suc, sym, take, take-append-add, take-append-drop, take_at, tells_apart, true, vec_len, zero, ℕ, ⊎_elim, ◌&&◌, ◌*◌, ◌++◌, ◌+◌, ◌-◌, ◌<◌, ◌==◌, ◌^◌, ◌∙◌, ◌∷◌, ◌≡◌, ◌≢◌, ◌≤◌, ◌↔◌, ◌⊎◌}
pub use Rattle.std.proofs.lemmas.Option.{IfSome_then}
pub use Rattle.cq_base.specs.Arriving.{Arrival, arriving, arriving_at, end_of}
unfoldable pub use Rattle.cq_base.specs.Arriving.{enough}
pub use Rattle.cq_base.specs.{declared.cell.Departure.Departure, declared.cell.Transfer.Transfer}
pub use Rattle.cq_space.specs.{Call.Call, Causes.Rose}
pub use Rattle.cq_space.specs.Failing.{Fails, Lasts, Reads, Writes}
pub use Rattle.cq_space.specs.Space.{Closed, Contents, Mode, Space, bytes_of}
pub use Rattle.cq_pcap.specs.Captured.{Captured}
pub use Rattle.cq_pcap.specs.{Faults.IsFaulty, declared.read.PcapRefusal.PcapRefusal}
unfoldable pub use Rattle.cq_route.specs.Plain.{plain_tables}
pub use Rattle.cq_route.specs.Tables.{AreTables, classes_of, ports_of}
pub use Rattle.cq_route.specs.{declared.tables.PortRow.PortRow, declared.tables.Tables.Tables}
unfoldable pub use Rattle.cq_tables.specs.Check.{first}
pub use Rattle.cq_tables.specs.Document.{Named, apart_from, checks_in, clash, file_check, files_in, files_of, names_of, read_at, tables_of, top_of, written_at}
unfoldable pub use Rattle.cq_tables.specs.Document.{read_or_refused}
pub use Rattle.cq_cells.proofs.Rising.{short_is, traffic_is}
pub use Rattle.cq_cells.specs.Schedule.{arrivals_of, t0_of, packet_at, start}
pub use Rattle.cq_base.specs.Items.{EachPair, Has}
pub use Rattle.cq_base.specs.Limits.{longest_file, most_ports, most_soak_slots}
unfoldable pub use Rattle.cq_cells.specs.Schedule.{arrivals, arrivals_at, cell_of, cells}
pub use Rattle.cq_cells.specs.Traffic.{IsInRange, IsLater, IsTraffic}
pub use Rattle.cq_scfq.specs.Disciplines.{machines_of, openings_of}
pub use Rattle.cq_ideal.proofs.LimitedEnds.{limited_not_more, run_as_before, same_sent}
pub use Rattle.cq_laws.specs.LimitedFabric.{LimitedRecord, slots_in}
pub use Rattle.cq_laws.proofs.InputBest.{stable_limited_too}
pub use Rattle.cq_simulate.proofs.FabricLaws.{always_slack, as_many_slots, best_in_each, once_each_slot, sends_as_ideal, slot_by_slot}
pub use Rattle.cq_simulate.specs.FabricRuns.{IsFabricRun, IsKeptOf, departures_in_run, unpacked_run}
unfoldable pub use Rattle.cq_simulate.specs.IdealRuns.{ideal_departures, ran_ideal}
pub use Rattle.cq_simulate.specs.Packets.{ArePacked, ends_packet_at, leaving}
unfoldable pub use Rattle.cq_simulate.specs.Packets.{packets_out}
pub use Rattle.cq_simulate.specs.{declared.fabric_run.PackedFabricRun.PackedFabricRun}
pub use Rattle.cq_words.specs.Words.{command_for, most_slots, with_three}
pub use Rattle.cq_words.specs.declared.command.Command.{Command}
pub use Rattle.cq_words.specs.declared.command.Command.TheVariants.{Audit, Check, Ideal, Part, Pass, Resume, Run, Soak}
pub use Rattle.cq_run.specs.Aim.{Aim, Auditing, Crossing, Denies, Exactly, Meets, Parting, Reporting, Resuming}
pub use Rattle.cq_run.specs.Asked.{command_asking}
pub use Rattle.cq_run.specs.Given.{Given, IsGiven, judged_of_given}
pub use Rattle.cq_run.specs.Headline.{AreGiven, AreRead, Emulates, IsAudited, KeepsUp}
pub use Rattle.cq_run.specs.Judging.{Halts, IsHaltOf, IsRefused, Judges}
pub use Rattle.cq_run.specs.Line.{Puts}
unfoldable pub use Rattle.cq_run.specs.Line.{line}
pub use Rattle.cq_run.specs.Pace.{Ahead, AnyName, InTurn, Pace, Uncounted, pace_of}
pub use Rattle.cq_run.specs.PartEnds.{IsPartHalt, IsResumeHalt, IsResumedBy, IsResuming}
pub use Rattle.cq_run.specs.Parting.{IsPartText}
pub use Rattle.cq_run.specs.Passing.{all_leave, as_it_leaves}
pub use Rattle.cq_run.specs.Pieces.{joined, piece_text}
pub use Rattle.cq_run.specs.Planning.{Decides, IsWithinRange, known_by, known_to}
pub use Rattle.cq_run.specs.Plan.{audited, capture_out, passed, file_alone}
unfoldable pub use Rattle.cq_run.specs.Plan.{captures_out, crossed, resumed, switched}
pub use Rattle.cq_run.specs.Refusals.{meaning_of}
pub use Rattle.cq_run.specs.Switching.{IsCrossed, IsCrossing, IsIdeal, IsPassing, halt_for, under_names}
pub use Rattle.cq_run.specs.Verdict.{MayRead, MayWrite, capture_in, captures_in, file_in, found_or_missing, ideally_sent, judged, judged_or_words, packets_at, read_or_refused_for, short_in, state_in, tables_in, text_in, ◌>>=◌}
unfoldable pub use Rattle.cq_run.specs.Verdict.{captures_from}
pub use Rattle.cq_run.specs.World.{Taken, World, taken_by}
pub use Rattle.cq_run.specs.{declared.denial.Denial.Denial, declared.refusal.Refusal.Refusal, declared.stop.Halt.Halt}
pub use Rattle.cq_run.specs.declared.refusal.Refusal.TheVariants.{Configuration, Missing, Words}
pub use Rattle.cq_run.specs.declared.stop.Halt.TheVariants.{NoMemory, Refused, Unread}
pub use Rattle.cq_run.specs.Terms.{IsAuditHalted, IsAuditPassed, IsCut, IsCutAtFile, IsDone, IsJudged, Plan, Reader, SameReader, Spells, StatusCauses, all_replaced, log_of, soak_captures, soak_tables, taken, trace_of}
pub use Rattle.cq_base.proofs.Each.{all_back, all_both, all_weaker}
pub use Rattle.cq_base.specs.{declared.cell.Cell.Cell, declared.cell.Queued.Queued, declared.status.Status.Status}
pub use Rattle.cq_space.proofs.Replaced.{get_same}
pub use Rattle.cq_pcap.specs.{Written.written, declared.write.OutPacket.OutPacket}
pub use Rattle.cq_pcap.proofs.{ReadIsSpelt.spelt_or_faulty, SpeltIsRead.fault_is_read, SpeltIsRead.spelt_is_read}
pub use Rattle.cq_stream.specs.declared.item.Item.TheVariants.{Row}
pub use Rattle.cq_base.proofs.Having.{has_left, has_right, pair_of_has}
pub use Rattle.cq_tables.proofs.Versions.{first_parts}
pub use Rattle.cq_tables.specs.{declared.place.Array.TheVariants.Ports, declared.place.Place.TheVariants.Element, declared.place.Place.TheVariants.Top}
pub use Rattle.cq_cells.specs.{Scheduled.Scheduled, Scheduled.schedule_of}
pub use Rattle.cq_rank.specs.Machine.{Machine}
pub use Rattle.cq_ideal.specs.{Admission.NoLimits}
pub use Rattle.cq_ideal.proofs.{Parted.all_slots, FlowCount.before_end, FlowCount.arriving_is, Parted.first_slot, Resting.ranked_none}
pub use Rattle.cq_audit.proofs.{AuditExact.audit_is_exact, Noted.stable_log, OneDifference.trace_is_exact}
pub use Rattle.cq_audit.specs.{Audit.IsYes}
pub use Rattle.cq_laws.specs.{Records.transfers_of_run}
pub use Rattle.cq_laws.proofs.WholeRuns.{empty_list}
pub use Rattle.cq_resume.specs.{Reading.IsRead, Resumed.IsResumed, Switch.switch_of}
pub use Rattle.cq_simulate.proofs.{FabricLaws.parted_best, FabricLaws.parted_slack, FabricLaws.resumed_best, FabricLaws.resumed_slack, OfPackets.left_in_packets, OfPackets.small_cells, EachPacket.each_packet_once, FabricLaws.resumed_counts, ResumedWhole.resumed_whole, FabricLaws.all_stable, FabricLaws.stable_sends, FabricLaws.stable_slack, OfPackets.one_is}
pub use Rattle.cq_simulate.specs.{PartedRuns.kept_of, declared.packing.Packing.Packing}
pub use Rattle.cq_words.specs.{Numbers.number_from, Streamed.as_run, Streamed.run_of, Streamed.streamed}
