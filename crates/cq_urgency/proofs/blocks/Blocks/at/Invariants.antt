use Rattle.cq_urgency.proofs.Terms.{◌≡◌, ◌+◌, take, cells_in_all}
use Rattle.cq_urgency.proofs.blocks.Blocks.at.Given as goal

-- so many are ahead of its place in the blocks from this one on
abbrev pub invariant-places : goal.invariant-places
invariant-places l = cells_in_all (take l.place l.self.blocks) + l.within ≡ l.ahead
