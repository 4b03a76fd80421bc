use Rattle.cq_list.proofs.Terms.{◌-◌, ◌<◌, ◌≤◌, length, IsAhead}
use Rattle.cq_list.specs.Sums.{begin_of}
use Rattle.cq_list.proofs.places.find_from_ends.Given as goal

-- the place is in a run that neither end has passed
abbrev pub invariant-runs : goal.invariant-runs
invariant-runs l = record {
  front : IsAhead l.blocks.blocks l.output (begin_of l.blocks.offset l.first) l.front.places l.front.own;
  back : IsAhead l.blocks.blocks l.output (begin_of l.blocks.offset (length l.sums - l.first)) l.back.places l.back.own;
  late : l.front.own ≤ l.number;
  early : l.number < l.back.own;
}
