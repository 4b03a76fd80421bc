use Rattle.cq_urgency.proofs.Terms.{◌≡◌, take, flattened}
use Rattle.cq_urgency.proofs.blocks.Blocks.cells.Given as goal

-- the cells of the blocks so far
abbrev pub invariant-each : goal.invariant-each
invariant-each l = l.cells.items ≡ flattened (take l.place l.self.blocks)
