use Rattle.cq_cells.proofs.Terms.{arith, common_steps, leb, rules, tests, IsPartitionPoint-from_clause, IsPartitionedBy-leb, Row}
use Rattle.cq_cells.proofs.line.begun.Goals as goal

pub returns-clause-begun : goal.returns-clause-begun
returns-clause-begun c =
    let point = IsPartitionPoint-from_clause (λ (row : Row). leb row.start c.args.slot) c.args.rows.now
    c.partition_point.result c.partition_point.ensures.partitioned
    (IsPartitionedBy-leb (λ (row : Row). row.start) c.args.rows.now c.args.slot c.requires)
    (λ a r q k. search (rules, tests)) in
    grind (arith, common_steps)
