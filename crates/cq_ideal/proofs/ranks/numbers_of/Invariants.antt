use Rattle.cq_ideal.proofs.Terms.{◌≡◌, length, take, vec_len, vec_capacity}
use Rattle.cq_ideal.proofs.ranks.numbers_of.Given as goal

-- the numbers before this place are there, and there is room for all
abbrev pub invariant-places : goal.invariant-places
invariant-places g l = record {
  numbers : l.numbers.items ≡ take l.at (g.R.Rank.state l.rank);
  filled : vec_len l.numbers ≡ l.at;
  room : vec_capacity l.numbers ≡ length (g.R.Rank.state l.rank);
}
