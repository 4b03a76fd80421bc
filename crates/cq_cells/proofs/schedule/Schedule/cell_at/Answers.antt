use Rattle.cq_cells.proofs.Owned.{arriving_of_input}
use Rattle.cq_cells.proofs.schedule.Schedule.cell_at.Goals as goal

pub returns : goal.returns
returns c = rw (arriving_of_input c.args.self.now.came c.args.slot c.args.input, ← c.line.ensures) c.cell_at.ensures
