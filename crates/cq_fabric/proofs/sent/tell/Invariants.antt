use Rattle.cq_fabric.proofs.Terms.{◌≡◌, map, all_told, changed_to}
use Rattle.cq_fabric.proofs.sent.tell.Given as goal

-- the machines of the outputs before this one have been told
abbrev pub invariant-outputs : goal.invariant-outputs
invariant-outputs g l = record {
  fixed : l.ranks.fixed ≡ l.fn.ranks.fixed;
  states : l.ranks.states ≡ changed_to (all_told (map g.R.Rank.machine l.fn.ranks.fixed) l.gone l.fn.ranks.states)
      l.fn.ranks.states l.output;
}
