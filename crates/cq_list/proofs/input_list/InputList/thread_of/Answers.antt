use Rattle.cq_list.proofs.Least.{least_next}
use Rattle.cq_list.proofs.input_list.InputList.thread_of.Goals as goal

pub outputs-preserved : goal.outputs-preserved
outputs-preserved c = cc (least_next c.args.id c.outputs.output c.args.self.now.cells)
