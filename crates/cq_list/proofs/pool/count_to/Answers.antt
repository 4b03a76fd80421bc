use Rattle.cq_list.proofs.Terms.{rules, and_assoc}
use Rattle.cq_list.proofs.Walk.{search_on}
use Rattle.cq_list.proofs.pool.count_to.Goals as goal

pub nodes-preserved : goal.nodes-preserved
nodes-preserved c = search_on c.requires c.nodes.invariant c.nodes-test.true c.index.ensures
    (search (rules, and_assoc))
