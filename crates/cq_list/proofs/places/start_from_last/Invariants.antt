use Rattle.cq_list.proofs.Terms.{◌≡◌, ◌-◌, ◌<◌, take, length, concat}
use Rattle.cq_list.specs.Sums.{begin_of}
use Rattle.cq_list.proofs.places.start_from_last.Given as goal

-- the place is ahead of the runs that were passed
abbrev pub invariant-runs : goal.invariant-runs
invariant-runs l = record {
  ahead : l.ahead ≡ length (concat (take (begin_of l.blocks.offset (length l.sums - l.passed)) l.blocks.blocks));
  early : l.place < l.ahead;
}
