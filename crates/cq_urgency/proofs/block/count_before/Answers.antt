use Rattle.cq_urgency.proofs.Terms.{rules, IsPartitionPoint-from_clause, Queued, is_before}
use Rattle.cq_urgency.proofs.Halving.{lesser_part, passed_at_point}
use Rattle.cq_urgency.proofs.block.count_before.Goals as goal

pub returns : goal.returns
unfolding is_before
returns c =
    let test = λ (x : Queued). is_before x.key c.args.key in
    let point = IsPartitionPoint-from_clause test c.args.cells.now c.partition_point.result
    c.partition_point.ensures.partitioned (lesser_part c.args.key _ c.requires) (λ a r f k. search rules) in
    passed_at_point test _ c.partition_point.result c.partition_point.ensures.bound point
