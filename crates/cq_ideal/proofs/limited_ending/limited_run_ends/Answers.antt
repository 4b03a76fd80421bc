use Rattle.cq_ideal.proofs.Terms.{arith, rules}
use Rattle.cq_ideal.proofs.LimitedEnds.{limited_ends, limited_found_end, run_as_before, slots_as_before}
use Rattle.cq_ideal.proofs.LastSlot.{limited_slots}
use Rattle.cq_ideal.proofs.limited_ending.limited_run_ends.Goals as goal

pub returns : goal.returns
returns c = search (arith, rules, limited_ends, limited_found_end, limited_slots, slots_as_before, run_as_before)
