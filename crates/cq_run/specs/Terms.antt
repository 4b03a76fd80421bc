-- The terms of this crate's clauses, each passed on from where it is defined.
pub use Rattle.cq_base.specs.declared.cell.Departure.{Departure}
pub use Rattle.cq_base.specs.Decimal.{decimal}
pub use Rattle.cq_base.specs.Limits.{longest_file, most_ports, most_soak_slots}
pub use Rattle.cq_base.specs.Texts.{log_of, trace_of}
pub use Rattle.cq_space.specs.Failing.{Fails, Reads, FailsTaking, Writes}
pub use Rattle.cq_space.specs.Space.{Closed}
pub use Rattle.cq_pcap.specs.{Captured.Captured, Faults.IsFaulty, Faults.fault_of, Record.Spells}
pub use Rattle.cq_stream.specs.Rings.{IsPairOf, SameReader, bytes_to_read, taken}
pub use Rattle.cq_stream.specs.Stream.{items_of}
unfoldable pub use Rattle.cq_route.specs.Plain.{plain_tables}
pub use Rattle.cq_route.specs.Tables.{AreTables, ports_of}
pub use Rattle.cq_cells.specs.Scheduled.{schedule_of}
pub use Rattle.cq_report.specs.Report.{report_with}
pub use Rattle.cq_resume.specs.{Reading.IsRead, Reading.IsRefusal, Switch.IsScheduleOf, Switch.switch_of}
pub use Rattle.cq_simulate.specs.{Packets.ArePacked, Packets.HaveLeftOf, PartedRuns.CanBeTakenUp, PartedRuns.taken_at, ScheduleFor.IsScheduleFor}
unfoldable pub use Rattle.cq_simulate.specs.IdealRuns.{ideal_departures}
pub use Rattle.cq_gen.specs.{Packets.soak_captures, Tables.soak_tables}
pub use Rattle.cq_words.specs.{Streamed.as_run, Words.command_for}
pub use Rattle.cq_run.specs.Aim.{Meets, Reporting}
pub use Rattle.cq_run.specs.{Answers.Answers, Judged.IsJudged, Parting.IsPartText, Parting.IsPartedAt, Plan.Plan, Reader.Reader, RunsAudited.RunsAreAudited, StatusCauses.StatusCauses}
pub use Rattle.cq_run.specs.Asked.{StopsInTime, command_asking}
pub use Rattle.cq_run.specs.AuditEnds.{IsAuditHalted, IsAuditPassed}
pub use Rattle.cq_run.specs.Decoding.{HasBegun, IsBegun, source}
pub use Rattle.cq_run.specs.Ending.{stop_status, EndsIn, WhereHalted, status_of}
pub use Rattle.cq_run.specs.Given.{IsGiven}
pub use Rattle.cq_run.specs.Headline.{AreGiven, Emulates}
pub use Rattle.cq_run.specs.Input.{IsHaltFor, IsInFront}
pub use Rattle.cq_run.specs.Judging.{Halts, Judges, IsHaltOf}
pub use Rattle.cq_run.specs.Line.{Says, line, halt_text, unwritten_text, stop_text, Tells}
pub use Rattle.cq_run.specs.Pace.{Ahead, InTurn, Pace, pace_of}
pub use Rattle.cq_run.specs.PartEnds.{IsResumeHalt, IsResuming, IsPartHalt, IsResumedBy, halt_for_state, halt_for_text}
pub use Rattle.cq_run.specs.Pieces.{joined, piece_text}
pub use Rattle.cq_run.specs.Planning.{IsWithinRange, known_by}
pub use Rattle.cq_run.specs.Plan.{audited, capture_out, captures_out, check_line, checked, counted, file_alone, switched, yes_line}
pub use Rattle.cq_run.specs.Refusals.{is_no, meaning_of, denial_text, log_text, refusal_text, state_fault_text}
pub use Rattle.cq_run.specs.Running.{IsEmptied, reader_of}
pub use Rattle.cq_run.specs.Switching.{IsSwitched, sent_by, under_names, IsCrossing, IsIdeal, IsPassing, halt_for, halt_of, IsCrossed}
pub use Rattle.cq_run.specs.Verdict.{captures_from, packets_at, ideally_sent, sent_or_tag, capture_in, captures_in, file_in, short_in, state_in, tables_in, text_in, verdict}
pub use Rattle.cq_run.specs.Workers.{WorkersChangeNothing}
pub use Rattle.cq_run.specs.World.{world, taken_by}
pub use Rattle.cq_run.specs.Writing.{IsDone, IsCut, IsCutAtFile, all_replaced}
pub use Rattle.cq_run.specs.Auditing.{halt_for_log}
