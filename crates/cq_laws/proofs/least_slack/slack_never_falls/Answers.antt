use Rattle.cq_laws.proofs.LeastSlack.{slot_rises, never_falls}
use Rattle.cq_laws.proofs.least_slack.slack_never_falls.Goals as goal

pub returns : goal.returns
returns c = record { rises = slot_rises; next = never_falls }
