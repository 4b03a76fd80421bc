use Rattle.cq_audit.proofs.Terms.{◌≡◌, length, arith, rules, length-map}
use Rattle.cq_audit.proofs.audit.replay_for.Goals as goal

pub returns : goal.returns
returns c =
    let classes = c.in_ok-ranks.ensures.classes c.requires.some in
    let kinds : length c.in_ok-ranks.ranks.items ≡ length c.args.setup.now.kinds = search (arith, rules, length-map) in
    search (arith, rules, length-map)
