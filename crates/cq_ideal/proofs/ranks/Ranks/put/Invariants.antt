use Rattle.cq_ideal.proofs.Terms.{◌≡◌}
use Rattle.cq_ideal.proofs.Changed.{changed_to}
use Rattle.cq_ideal.proofs.ranks.Ranks.put.Given as goal

-- the states of the outputs before this one are the new ones
abbrev pub invariant-outputs : goal.invariant-outputs
invariant-outputs g l = record {
  fixed : l.self.fixed ≡ l.fn.self.fixed;
  states : l.self.states ≡ changed_to l.states l.fn.self.states l.output;
}
