use Rattle.cq_list.proofs.Terms.{◌≤◌, IsAhead}
use Rattle.cq_list.proofs.places.find_in_run.Given as goal

-- the place is in none of the blocks that were passed
abbrev pub invariant-each : goal.invariant-each
invariant-each l = record {
  ahead : IsAhead l.blocks.blocks l.output l.block l.ahead.places l.ahead.own;
  late : l.ahead.own ≤ l.number;
}
