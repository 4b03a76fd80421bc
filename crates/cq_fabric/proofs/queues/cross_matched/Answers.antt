use Rattle.cq_fabric.proofs.Terms.{arith, rules, length-map}
use Rattle.cq_fabric.proofs.Queued.{HaveCrossed, firsts_apart}
use Rattle.cq_fabric.proofs.Offered.{as_offered, moved_apart, moved_same, moved_outputs}
use Rattle.cq_fabric.proofs.queues.cross_matched.Goals as goal

pub renew-requires : goal.renew-requires
renew-requires c = record {
  lists = search (arith, rules, HaveCrossed, length-map, as_offered);
  outputs = rw (as_offered c.args.lists.now c.args.offers.now c.requires.follow.offers)
      (search (arith, rules, moved_outputs));
  keys = search (arith, rules, firsts_apart, moved_apart);
  ports = search (arith, rules, as_offered);
  others = search (arith, rules, moved_same);
}
