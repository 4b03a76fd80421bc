use Rattle.cq_run.proofs.say.say_state.Goals as goal

pub returns-in-Unsound : goal.returns-in-Unsound
returns-in-Unsound g c = rw c.in-Unsound.is (rw c.from.ensures at c.say_number-in-Unsound.ensures)
