use Rattle.cq_ideal.proofs.Terms.{◌≡◌}
use Rattle.cq_ideal.proofs.Changed.{changed_to}
use Rattle.cq_ideal.proofs.ranks.put_numbers.Given as goal

-- the numbers before this place are the new ones
abbrev pub invariant-places : goal.invariant-places
invariant-places g l = record {
  fixed : g.R.Rank.fixed l.rank ≡ g.R.Rank.fixed l.fn.rank;
  state : g.R.Rank.state l.rank ≡ changed_to l.numbers (g.R.Rank.state l.fn.rank) l.at;
}
