use Rattle.cq_list.proofs.Terms.{◌≡◌, ◌++◌, take}
use Rattle.cq_list.proofs.block.Block.append.Given as goal

-- the places so far went over
abbrev pub invariant-moved : goal.invariant-moved
invariant-moved l = l.self ≡ l.initial.self ++ take l.place l.more
