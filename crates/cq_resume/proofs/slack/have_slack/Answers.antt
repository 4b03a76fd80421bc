use Rattle.cq_resume.proofs.Terms.{arith, rules, ◌==◌, filter, below_more, refl, HasRoom, SlackStands}
use Rattle.cq_resume.proofs.Lanes.{slack_by_input}
use Rattle.cq_resume.proofs.slack.have_slack.Goals as goal

pub returns-then-not-list_has_room : goal.returns-then-not-list_has_room
returns-then-not-list_has_room c =
    search (arith, rules, λ (stands : SlackStands c.args.listed.now c.args.buffered.now). stands c.inputs.input)

pub inputs-preserved : goal.inputs-preserved
inputs-preserved c =
    below_more (λ i. HasRoom c.args.buffered.now (filter (λ q. q.key.input == i) c.args.listed.now)) c.inputs.input
    c.inputs.invariant (rw c.list_at.ensures at (c.list_has_room.ensures.0 c.if-not-list_has_room.false))

pub returns : goal.returns
returns c =
    ((λ yes. slack_by_input _ _ _ c.requires.inputs (λ i lt. c.inputs.invariant i (omega arith))), (λ stands. refl))
