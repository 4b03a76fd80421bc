use Rattle.cq_fabric.proofs.Terms.{◌∙◌, arith, rules, length-insert}
use Rattle.cq_fabric.proofs.Filling.{comes_anew, comes_behind, comes_in_range, comes_last}
use Rattle.cq_fabric.proofs.standing.filled_list.Goals as goal

pub insert-requires : goal.insert-requires
insert-requires c = search (arith, rules, comes_in_range, comes_anew, comes_behind)

pub places-preserved : goal.places-preserved
places-preserved c =
    let cells = c.insert.ensures.cells
    ∙ comes_last c.args.outputs c.args.room c.args.cells.now c.requires.wait c.places.at c.places-test.true _
    c.places.list c.places.invariant.cells in
    search (arith, rules, length-insert)
