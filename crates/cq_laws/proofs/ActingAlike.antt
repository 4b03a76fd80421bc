-- Both switches act alike, with limits and without: with stable matchings, and so with input-best ones. From empty
-- states on they refuse as much at each output, since their admissions are the same.
use Rattle.cq_laws.proofs.Terms.{arith, rules, ℕ, List, Option, Machine, IsInputBest, IsStable, ActAlikeFromEmptyWithoutLimits, ActAlikeWithoutLimits, ActAlike, ActAlikeFromEmpty}
use Rattle.cq_laws.proofs.InputBest.{stable_too, stable_limited_too}
use Rattle.cq_laws.proofs.LimitedSlots.{same_limited_slot, same_limited_fault}
use Rattle.cq_laws.proofs.LimitedWhole.{begin, limited_beside, same_limited_run, same_limited_stop, limited_empty_agree, limited_run_slack}
use Rattle.cq_laws.proofs.OneSlot.{same_slot, same_fault}
use Rattle.cq_laws.proofs.WholeRuns.{empty_agree, run_beside, same_run, same_stop, traffic_for_empty, run_slack}

module _ (limits : List (Option ℕ)) (ms : List Machine) where
  pub stable_act_alike : ActAlike IsStable limits ms
  stable_act_alike =
      let fault = same_limited_fault limits ms in
      let stop = same_limited_stop limits ms in
      search (rules, same_limited_slot limits ms, fault, same_limited_run limits ms, stop)

  pub best_act_alike : ActAlike IsInputBest limits ms
  best_act_alike =
      let also = stable_limited_too ms limits in search (rules, stable_act_alike, also.slot, also.run, also.stop)

  pub best_act_alike_from_empty : ActAlikeFromEmpty IsInputBest limits ms
  best_act_alike_from_empty =
      let stable = (stable_limited_too ms limits).run 0 in
      record {
        run = λ ports class_count ranks traffic rs g come run.
            limited_beside limits ms ports class_count ranks traffic rs g come (stable traffic _ g rs run);
        stop = λ ports class_count ranks traffic rs fault come run.
            search (arith, rules, best_act_alike.stop, begin limits ms class_count ports ranks traffic come);
        refused = λ ports class_count ranks traffic rs g ran come run.
            let alike = limited_beside limits ms ports class_count ranks traffic rs g come (stable _ _ g rs run) in
            search (arith, rules, alike);
      }

-- ## Without limits

module _ (ms : List Machine) where
  pub stable_alike_without_limits : ActAlikeWithoutLimits IsStable ms
  stable_alike_without_limits = search (rules, same_slot, same_fault, same_run, same_stop)

  pub best_alike_without_limits : ActAlikeWithoutLimits IsInputBest ms
  best_alike_without_limits =
      let also = stable_too ms in search (rules, stable_alike_without_limits, also.slot, also.run, also.stop)

  pub best_alike_from_empty_without_limits : ActAlikeFromEmptyWithoutLimits IsInputBest ms
  best_alike_from_empty_without_limits =
      let alike = best_alike_without_limits in
      record {
        run = λ ports class_count ranks traffic rs g come run.
            run_beside ports ranks ms class_count traffic rs g come ((stable_too ms).run 0 traffic _ g rs run);
        stop = λ ports class_count ranks traffic rs fault come. alike.stop 0 class_count traffic _ _ rs fault
            (empty_agree ports ranks) (traffic_for_empty ports ranks class_count traffic come);
      }

pub ruleset best_alike =
    (best_act_alike, best_act_alike_from_empty, best_alike_without_limits, best_alike_from_empty_without_limits)

pub ruleset any_alike =
    (stable_act_alike, limited_run_slack, limited_empty_agree, stable_alike_without_limits, run_slack, empty_agree)
