use Rattle.cq_list.proofs.Terms.{◌≡◌, ℕ, List, ◌++◌, drop, merged, queue_of}
use Rattle.cq_list.proofs.input_list.tell.Given as goal

-- what is told, and what is still to be told at the places from this one on and at any behind, stay the same cells
abbrev pub invariant-places : goal.invariant-places
invariant-places l = (left : List ℕ) → l.cells.items ++ merged (drop l.output-index l.places ++ left) (queue_of l.heads)
    ≡ l.fn.cells.items ++ merged (l.places ++ left) (queue_of l.fn.heads)
