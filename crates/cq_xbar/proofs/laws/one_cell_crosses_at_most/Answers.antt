use Rattle.cq_xbar.proofs.OneEach.{moves_one_each, notes_one_each}
use Rattle.cq_xbar.proofs.laws.one_cell_crosses_at_most.Goals as goal

pub returns-clause-moved : goal.returns-clause-moved
returns-clause-moved c = moves_one_each

pub returns-clause-noted : goal.returns-clause-noted
returns-clause-noted c = notes_one_each
