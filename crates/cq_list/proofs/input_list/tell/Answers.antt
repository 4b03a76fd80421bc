use Rattle.cq_list.proofs.Terms.{rules, arith, ◌++◌, ◌+◌, drop, drop_all, drop_more, append_assoc, append-nil}
use Rattle.cq_list.proofs.Told.{told_next}
use Rattle.cq_list.proofs.input_list.tell.Goals as goal

pub places-preserved : goal.places-preserved
places-preserved c left =
    let next = drop_more c.args.places.now c.places.output-index 0 c.places-test.true in
    let had = rw next at (c.places.invariant left) in
    let told = told_next _ c.places.heads c.next.ensures.head c.next.ensures.queues
    (drop (c.places.output-index + 1) c.args.places.now ++ left) in
    search (arith, rules, told, had, append_assoc, append-nil)

pub returns : goal.returns
returns c left = let told = c.places.invariant left in search (arith, rules, drop_all)
