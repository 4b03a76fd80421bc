use Rattle.cq_list.proofs.Terms.{◌≡◌, ◌+◌, take, length, concat, count_of}
use Rattle.cq_list.proofs.places.count_in.Given as goal

-- those of the blocks that were passed are counted
abbrev pub invariant-each : goal.invariant-each
invariant-each l = (count_of l.output (concat (take l.block l.blocks.blocks)) ≡ l.count)
    × (length (concat (take l.block l.blocks.blocks)) + l.left ≡ l.fn.place)
