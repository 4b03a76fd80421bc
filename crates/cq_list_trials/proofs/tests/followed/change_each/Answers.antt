use Rattle.cq_list_trials.proofs.Terms.{◌∙◌, sym, subst, arith, cells_of, orders_of, AreSameWithout}
use Rattle.cq_list_trials.proofs.Followed.{one_changed, all_same, own_keys}
use Rattle.cq_list_trials.proofs.tests.followed.change_each.Goals as goal
use Rattle.cq_list_trials.proofs.tests.followed.change_each.Goals.{in-Some, in_default}

pub loop-input-preserved : goal.loop-input-preserved
loop-input-preserved c =
    let had = c.loop-input.invariant.changing in
    elim c.match-partner_of.branch [
      | in-Some w ↦ record {
        changing = rw (w.lists-is, w.slot-is) (one_changed had c.loop-input.input w.in-Some.output
            w.index-lists-input.result w.change_one.new.list (sym c.partner_of.ensures.partner ∙ w.in-Some.is)
            (omega arith) w.change_one.ensures.outputs w.change_one.ensures.own w.change_one.ensures.changed);
        few = omega arith;
      }
      | in_default w ↦ record { changing = rw (w.lists-is, w.slot-is) had; few = omega arith }
    ]

pub renew-requires-clause-keys : goal.renew-requires-clause-keys
renew-requires-clause-keys c = own_keys c.loop-input.slot c.loop-input.lists c.loop-input.invariant.changing.own

pub renew-requires-clause-others : goal.renew-requires-clause-others
renew-requires-clause-others c =
    subst (λ o. AreSameWithout c.args.changed.now o (orders_of (cells_of c.loop-input.lists))) (sym c.requires.offers)
    (all_same c.loop-input.invariant.changing c.args.first c.requires.own)
