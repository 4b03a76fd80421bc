-- The words of this crate's proofs that stand elsewhere, each passed on from its place.
pub use Rattle.cq_base.proofs.Library.{Err, List, Ok, Some, [], ap, arith, common_steps, get, le-ltb, length, length-map, refl, rules, subst, ℕ, ◌<◌, ◌^◌, ◌∷◌, ◌≡◌, ◌≢◌, ◌≤◌}
pub use Rattle.cq_base.specs.declared.cell.TagFault.{TagFault}
pub use Rattle.cq_space.specs.Space.{Contents}
pub use Rattle.cq_pcap.specs.Captured.{Captured}
pub use Rattle.cq_route.specs.declared.tables.Tables.{Tables}
pub use Rattle.cq_cells.specs.Scheduled.{Scheduled, schedule_of}
pub use Rattle.cq_laws.specs.LimitedFabric.{LimitedRecord}
pub use Rattle.cq_resume.specs.Switch.{IsScheduleOf, Switch, switch_of}
pub use Rattle.cq_words.specs.declared.command.Command.TheVariants.{Resume, Run}
pub use Rattle.cq_run.specs.Aim.{Aim, Denies, Resuming}
pub use Rattle.cq_run.specs.{Reader.Reader}
pub use Rattle.cq_run.specs.Verdict.{captures_in, judged, tables_in}
pub use Rattle.cq_base.proofs.Each.{all_weaker}
pub use Rattle.cq_base.specs.Limits.{longest_file}
pub use Rattle.cq_space.proofs.Replaced.{get_same}
pub use Rattle.cq_route.specs.{Tables.AreTables, Tables.classes_of, Tables.ports_of}
pub use Rattle.cq_cells.proofs.Rising.{traffic_is}
pub use Rattle.cq_cells.specs.{Schedule.arrivals}
pub use Rattle.cq_scfq.specs.{Disciplines.machine_of, Disciplines.machines_of, Disciplines.openings_of}
pub use Rattle.cq_ideal.proofs.LimitedEnds.{limited_whole_fault}
pub use Rattle.cq_ideal.specs.{LimitedEnding.departures_limited}
pub use Rattle.cq_laws.proofs.ActingAlike.{best_act_alike_from_empty}
pub use Rattle.cq_resume.specs.{Parts.IsWholeFault, Reading.IsRead, declared.taken.Taken.Taken}
pub use Rattle.cq_stopped.proofs.{Together.read_runs_go_on, Together.stopped_runs_are_read}
pub use Rattle.cq_stopped.specs.{Read.GoesOnAsRun, Read.IsReadAs, Read.kept_in_run}
pub use Rattle.cq_traffic.proofs.Arriving.{slots_fit}
pub use Rattle.cq_simulate.specs.FabricRuns.{departures_in_run}
pub use Rattle.cq_run.proofs.Left.{captures_same, untouched}
pub use Rattle.cq_run.specs.{Headline.AreGiven, Parting.IsPartText, declared.refusal.Refusal.Refusal}
