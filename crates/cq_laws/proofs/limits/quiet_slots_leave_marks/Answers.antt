use Rattle.cq_laws.proofs.Terms.{arith, rules, no_arrivals_refuse_none, IsInputBest}
use Rattle.cq_laws.proofs.NothingRefused.{none_come, run_with, slot_with}
use Rattle.cq_laws.proofs.QuietSlots.{quiet, quiet_run}
use Rattle.cq_laws.proofs.limits.quiet_slots_leave_marks.Goals as goal

pub returns : goal.returns
returns c = search (arith, rules, slot_with, no_arrivals_refuse_none, quiet, run_with, none_come IsInputBest, quiet_run)
