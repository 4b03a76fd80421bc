use Rattle.cq_ideal.proofs.Terms.{arith, rules, admission, marks_after}
use Rattle.cq_ideal.proofs.Admitted.{admitted_at}
use Rattle.cq_ideal.proofs.AtInput.{come_in_order}
use Rattle.cq_ideal.proofs.LimitedRuns.{judged}
use Rattle.cq_ideal.proofs.Packets.{whole_packets}
use Rattle.cq_ideal.proofs.limits.whole_packets_are_admitted.Goals as goal

pub returns : goal.returns
unfolding admission
returns c = record {
  by_mark = λ limits held marks cells i. admitted_at (marks_after limits held marks cells) cells i;
  run = λ limits ms slot traffic old ran i is packets.
      whole_packets limits i old.marks traffic ran.admissions (judged limits ms slot traffic old ran is) packets;
  judged = search (arith, rules, whole_packets);
  in_order = λ i came inside rise. come_in_order i inside came rise;
}
