use Rattle.cq_laws.proofs.Terms.{length, empty_limited_fabric, limited_found_end, limited_whole_fault, first_slots, empty_limited}
use Rattle.cq_laws.proofs.EndsTogether.{limited_ends, one_limited_whole}
use Rattle.cq_laws.proofs.LimitedWhole.{begin, same_limited_stop}
use Rattle.cq_laws.proofs.limits.limited_runs_end_together.Goals as goal

pub returns : goal.returns
returns c = record {
  end = limited_ends;
  slots = λ limits ms ports class_count ranks came rs g fit whole.
      let alike = limited_ends limits ms ports class_count ranks came rs g fit whole in
      limited_found_end limits ms ports ranks came (length rs) alike.after alike.ends;
  stop = λ limits ms ports class_count n ranks came rs fault fit stops.
      limited_whole_fault limits ms ports ranks came n fault
      (same_limited_stop limits ms class_count 0 (first_slots came n) (empty_limited_fabric ports ranks)
      (empty_limited ports ranks) rs fault (begin limits ms class_count ports ranks (first_slots came n) fit) stops);
  one = one_limited_whole;
}
