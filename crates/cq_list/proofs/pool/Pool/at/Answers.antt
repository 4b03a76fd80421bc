use Rattle.cq_list.proofs.Terms.{arith}
use Rattle.cq_list.proofs.Queues.{read_of, as_many, inside_some}
use Rattle.cq_list.proofs.pool.Pool.at.Goals as goal

pub cell_at-requires : goal.cell_at-requires
cell_at-requires c =
    let read = read_of c.self.invariant c.self.view_is (inside_some _ c.args.output c.args.ahead c.requires)
    c.index.ensures in
    record { chained = read.is_linked.chained; inside = let many = as_many read in omega arith }
