use Rattle.cq_state.proofs.Terms.{◌≡◌, ◌++◌, drop, flat_map, numbered, rank_line, spelled}
use Rattle.cq_state.proofs.write.put_ranks.Given as goal

-- what is put, with the lines that are still to come, is all
abbrev pub invariant-outputs : goal.invariant-outputs
invariant-outputs l = l.text.items ++ flat_map spelled (numbered rank_line l.output (drop l.output l.ranks))
    ≡ l.fn.text.items ++ flat_map spelled (numbered rank_line 0 l.ranks)
