use Rattle.cq_state.proofs.Terms.{arith, common_steps, drop_more, append_assoc, length-append}
use Rattle.cq_state.proofs.write.put_each.Goals as goal

pub returns-in_err-enough-clause-long : goal.returns-in_err-enough-clause-long
returns-in_err-enough-clause-long g c =
    let more = drop_more c.args.items.now c.items.item-index c.item-item.result c.items-test.true in
    let told = (c.in_err-enough.ensures {u = tt}).long in
    grind (arith, common_steps, more, append_assoc, length-append, told)

pub items-preserved : goal.items-preserved
items-preserved g c =
    let more = drop_more c.args.items.now c.items.item-index c.item-item.result c.items-test.true in
    grind (arith, common_steps, more, append_assoc)
