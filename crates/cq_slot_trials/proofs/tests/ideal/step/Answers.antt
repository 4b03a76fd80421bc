use Rattle.cq_slot_trials.proofs.Terms.{map, arith, marked_state, counts_fit, rules}
use Rattle.cq_slot_trials.proofs.Arriving.{admitted_most, count_most, refusals_most}
use Rattle.cq_slot_trials.proofs.IdealSlots.{after_slot}
use Rattle.cq_slot_trials.proofs.tests.ideal.step.Goals as goal

pub slot-requires : goal.slot-requires
slot-requires g c = let places = c.at-places.ensures.arrivals.places in search (arith, rules, count_most)

pub returns-clause-stepped : goal.returns-clause-stepped
returns-clause-stepped g c =
    let cells = c.args.coming.now.arrivals in
    let old = marked_state c.args.ideal.now in
    let places = c.at-places.ensures.arrivals.places in
    after_slot c.args.ideal.now.limits (map g.R.Rank.machine c.args.ideal.now.fixed) c.next.result cells old
    c.slot.result _ _ c.slot.ensures.answer c.slot.ensures.slot
    (λ sent is done. record {
      next = search (arith, rules);
      spare = λ j inside. let spare = done.spare j (search (arith, rules)) in search (arith, rules, admitted_most);
      counts = λ n can. rw done.refused (counts_fit sent.admission.refused n 64 c.args.ideal.now.refused can
          (search (arith, rules, refusals_most c.args.ideal.now.limits)));
    })
