use Rattle.cq_list.proofs.Terms.{◌≡◌, ◌+◌, take, length, concat}
use Rattle.cq_list.proofs.places.spot_in.Given as goal

abbrev pub invariant-each : goal.invariant-each
invariant-each l = length (concat (take l.block l.blocks.blocks)) + l.within ≡ l.place
