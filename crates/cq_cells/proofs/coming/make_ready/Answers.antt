use Rattle.cq_cells.proofs.Owned.{none_stand}
use Rattle.cq_cells.proofs.coming.make_ready.Goals as goal

pub returns : goal.returns
returns c = none_stand c.args.wanted _ c.clear.ensures
