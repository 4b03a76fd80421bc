use Rattle.cq_list.proofs.Terms.{◌≡◌, ◌++◌, concat, merged, queue_of}
use Rattle.std.specs.VecDeque.Iter.{deque_iter_rest}
use Rattle.cq_list.proofs.input_list.InputList.cells.Given as goal

-- what is told and what the blocks that are left still tell are all cells
abbrev pub invariant-each : goal.invariant-each
invariant-each l =
    l.cells.items ++ merged (concat (deque_iter_rest l.block-iterator)) (queue_of l.heads) ≡ l.self.cells
