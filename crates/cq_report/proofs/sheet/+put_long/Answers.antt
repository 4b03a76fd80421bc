use Rattle.cq_report.proofs.Terms.{◌≤◌, arith}
use Rattle.cq_report.proofs.Hundreds.{two_digits_behind, two_longer}
use Rattle.cq_report.proofs.sheet.+put_long.Goals as goal

pub returns-clause-text : goal.returns-clause-text
returns-clause-text t c =
    let more : 100 ≤ c.args.number = omega (arith, c.if-number-lt1000.false) in
    let longer = two_longer c.args.number more in
    two_digits_behind _ _ _ _ _ more (omega arith) c.put_long-behind.ensures.text c.put_pair.ensures.text
