use Rattle.cq_list.proofs.Terms.{◌≡◌, ◌++◌, length}
use Rattle.cq_list.proofs.block.Block.split_off.Given as goal

-- the places that are left and those that were moved are the places that there were
abbrev pub invariant-moved : goal.invariant-moved
invariant-moved l = (l.initial.self ≡ l.self ++ l.back) × (length l.back ≡ l.counter)
