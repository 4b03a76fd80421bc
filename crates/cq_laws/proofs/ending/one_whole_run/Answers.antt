use Rattle.cq_laws.proofs.Terms.{IsInputBest, IsEmptyFabric, FabricSlot}
use Rattle.cq_laws.proofs.OneRun.{only_run}
use Rattle.cq_laws.proofs.Parted.{one_whole}
use Rattle.cq_laws.proofs.ending.one_whole_run.Goals as goal

pub returns : goal.returns
returns c = λ ms. one_whole (FabricSlot IsInputBest ms) (only_run ms).run IsEmptyFabric
