use Rattle.cq_route.proofs.Terms.{arith, rules, take_all}
use Rattle.cq_route.proofs.Listed.{AreListed, directory_is, listed_more, none_listed}
use Rattle.cq_route.proofs.directory.Directory.of.Goals as goal

pub rows-init : goal.rows-init
rows-init c = none_listed c.new-outputs.result c.new-outputs.ensures.empty

pub rows-preserved : goal.rows-preserved
rows-preserved c =
    let rows = c.as_slice-rows.result.now in
    let n = c.number_of.ensures in
    listed_more rows c.rows.row-index c.rows.outputs c.learn.new.outputs c.number_of.result _ c.rows-test.true
    c.rows.invariant n.address n.number c.in_ok-learn.ensures

pub returns : goal.returns
returns c = search (arith, rules, take_all, directory_is, AreListed)
