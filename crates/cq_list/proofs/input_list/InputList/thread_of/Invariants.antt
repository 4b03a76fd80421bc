use Rattle.cq_list.proofs.Terms.{◌≡◌, position_or_len}
use Rattle.cq_list.proofs.Least.{is_below}
use Rattle.cq_list.proofs.input_list.InputList.thread_of.Given as goal

-- the cells for the outputs so far have the id first at this place
abbrev pub invariant-outputs : goal.invariant-outputs
invariant-outputs l = l.place ≡ position_or_len (is_below l.id l.output) l.self.cells
