use Rattle.cq_ideal.proofs.Terms.{◌≡◌, length, take, vec_len, vec_capacity}
use Rattle.cq_ideal.proofs.ranks.Ranks.numbers.Given as goal

-- the states of the outputs before this one are there, and there is room for all
abbrev pub invariant-outputs : goal.invariant-outputs
invariant-outputs g l = record {
  states : l.states.items ≡ take l.output l.self.states;
  filled : vec_len l.states ≡ l.output;
  room : vec_capacity l.states ≡ length l.self.fixed;
}
