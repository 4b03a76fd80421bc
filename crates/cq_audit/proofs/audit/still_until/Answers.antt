use Rattle.cq_audit.proofs.Terms.{arith, rules, quiet_of, cases_lt, all_weaker}
use Rattle.cq_audit.proofs.Following.{all_late, until_here}
use Rattle.cq_audit.proofs.audit.still_until.Goals as goal

pub returns-in-Some : goal.returns-in-Some
returns-in-Some c = until_here c.args.schedule.now.came c.args.slot c.args.lines.now c.in-Some.line.now
    c.requires.none_before c.in-Some.ensures.value c.if-line-slot.true

pub returns-in-Some-2 : goal.returns-in-Some-2
returns-in-Some-2 c = rw c.min.ensures (search (arith, rules, quiet_of, cases_lt, all_late, all_weaker))

pub returns-in-None : goal.returns-in-None
returns-in-None c = search (arith, rules, quiet_of)
