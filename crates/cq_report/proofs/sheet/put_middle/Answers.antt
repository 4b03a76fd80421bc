use Rattle.cq_report.proofs.Terms.{arith}
use Rattle.cq_report.proofs.Hundreds.{two_digits_behind, two_longer}
use Rattle.cq_report.proofs.sheet.put_middle.Goals as goal

pub returns-clause-text : goal.returns-clause-text
returns-clause-text c =
    let longer = two_longer c.args.number c.requires.more in
    two_digits_behind _ _ _ _ _ c.requires.more (omega arith) c.put_short-behind.ensures.text c.put_pair.ensures.text
