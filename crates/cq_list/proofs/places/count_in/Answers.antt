use Rattle.cq_list.proofs.Terms.{rules, length, count_of, arith}
use Rattle.cq_list.proofs.Sums.{ahead_next, count_added, length_added}
use Rattle.cq_list.proofs.places.count_in.Goals as goal

pub each-preserved : goal.each-preserved
each-preserved c =
    let own = ahead_next (count_of c.args.output) (count_added c.args.output) in
    search (arith, rules, ahead_next length length_added, own)
