use Rattle.cq_engine.proofs.Terms.{◌≡◌, length, take}
use Rattle.cq_engine.proofs.Counted.{AreCounted}
use Rattle.cq_engine.proofs.copied.count_each.Given as goal

-- the cells before this place are counted
abbrev pub invariant-cells : goal.invariant-cells
invariant-cells l =
    record {
      ports : length l.held ≡ length l.fn.held;
      counts : AreCounted l.fn.held l.held (take l.queued-index l.cells);
    }
