use Rattle.cq_audit.proofs.Terms.{take, cells_of}
use Rattle.cq_audit.proofs.PhaseExact.{ToldBy}
use Rattle.cq_audit.proofs.told.told.Given as goal

-- the lines before this one are right, and these are the pairs that they tell
abbrev pub invariant-lines : goal.invariant-lines
invariant-lines l = ToldBy (cells_of l.lists) (take l.line-index l.lines) l.pairs
