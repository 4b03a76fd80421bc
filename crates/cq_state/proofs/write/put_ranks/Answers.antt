use Rattle.cq_state.proofs.Terms.{arith, common_steps, drop_more, append_assoc}
use Rattle.cq_state.proofs.write.put_ranks.Goals as goal

pub outputs-preserved : goal.outputs-preserved
outputs-preserved c =
    let more = drop_more c.args.ranks.now c.outputs.output c.index-ranks-output.result c.outputs-test.true in
    grind (arith, common_steps, more, append_assoc)
