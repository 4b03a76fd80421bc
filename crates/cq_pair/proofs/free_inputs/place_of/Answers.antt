use Rattle.cq_pair.proofs.Terms.{arith, rules, tests, ℕ, leb, ltb, IsPartitionPoint-from_clause, IsPartitionedBy-leb, first_at_point, le_not_lt}
use Rattle.cq_pair.proofs.free_inputs.place_of.Goals as goal

pub returns-clause-place : goal.returns-clause-place
returns-clause-place c =
    let no_greater = λ (k : ℕ). leb k c.args.input in
    let point = IsPartitionPoint-from_clause no_greater c.args.inputs.now c.partition_point.result
    c.partition_point.ensures.partitioned (IsPartitionedBy-leb (λ (k : ℕ). k) _ c.args.input c.requires)
    (λ a r f k. search (rules, tests)) in
    search (arith, rules, first_at_point (ltb c.args.input) no_greater, le_not_lt)
