use Rattle.cq_list.proofs.Terms.{◌≡◌, ◌+◌, take, length, concat}
use Rattle.cq_list.specs.Sums.{begin_of}
use Rattle.cq_list.proofs.places.start_from_first.Given as goal

abbrev pub invariant-runs : goal.invariant-runs
invariant-runs l = length (concat (take (begin_of l.blocks.offset l.run) l.blocks.blocks)) + l.left ≡ l.place
