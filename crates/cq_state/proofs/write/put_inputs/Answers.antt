use Rattle.cq_state.proofs.Terms.{arith, common_steps, drop_more, append_assoc, Seen}
use Rattle.cq_state.proofs.write.put_inputs.Goals as goal

pub inputs-preserved : goal.inputs-preserved
inputs-preserved c =
    let more = λ (d : Seen). drop_more c.args.inputs.now c.inputs.input d c.inputs-test.true in
    grind (arith, common_steps, more, append_assoc)
