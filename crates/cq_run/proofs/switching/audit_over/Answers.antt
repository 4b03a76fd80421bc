use Rattle.cq_run.proofs.Terms.{ideal_departures, ran_ideal, arith, rules, recursion_from_All}
use Rattle.cq_run.proofs.Audits.{both_passed}
use Rattle.cq_run.proofs.switching.audit_over.Goals as goal

-- ## What judging the log asks for

pub audit_log-requires : goal.audit_log-requires
unfolding ideal_departures ran_ideal
audit_log-requires c = search (arith, rules, recursion_from_All, c.in_ok-text.ensures.text.1)

-- ## The log, and then the trace

pub returns-in-None-clause-passed : goal.returns-in-None-clause-passed
returns-in-None-clause-passed c = search (arith, rules, both_passed)
