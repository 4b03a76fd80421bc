use Rattle.cq_resume.proofs.Terms.{arith, rules, each_pair}
use Rattle.cq_resume.proofs.Cut.{rising_kept}
use Rattle.cq_resume.proofs.slack.buffer_at.Goals as goal

pub returns-clause-rising : goal.returns-clause-rising
returns-clause-rising c = search (arith, rules, rising_kept c.args.output c.args.buffered.now, each_pair)
