use Rattle.cq_simulate.proofs.Terms.{arith, rules, ◌≡◌, min, unwrap_or, arrives_before, none_up_to, within_both}
use Rattle.cq_simulate.proofs.parted_run.quiet_before.Goals as goal

pub returns : goal.returns
returns c =
    let is : c.min.result ≡ min (unwrap_or c.next_near.result c.args.last) c.args.last = cc in
    let both = within_both c.args.schedule.now.came _ _ c.min.result _ c.next_near.ensures c.requires is in
    search (arith, rules, none_up_to, arrives_before)
