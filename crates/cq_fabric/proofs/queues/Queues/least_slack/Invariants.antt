use Rattle.cq_fabric.proofs.Terms.{◌≡◌, [], take, min, reduce, slacks, fabric_of}
use Rattle.cq_fabric.proofs.queues.Queues.least_slack.Given as goal

-- the cells before this place are looked at
abbrev pub invariant-places : goal.invariant-places
invariant-places l = l.least ≡ reduce min (take l.place (slacks (fabric_of l.self []) l.input))
