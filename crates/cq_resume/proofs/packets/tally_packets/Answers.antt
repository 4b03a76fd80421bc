use Rattle.cq_resume.proofs.Terms.{rules, sym, ◌∙◌, arith, with_items_is}
use Rattle.std.proofs.lemmas.List.{places}
use Rattle.cq_resume.proofs.Adding.{Tallied, tallied_first, tallied_more, tally_fits, all_stand, tallies_up}
use Rattle.cq_resume.proofs.packets.tally_packets.Goals as goal
use Rattle.cq_resume.proofs.packets.tally_packets.Goals.{After-of-2}

pub inputs-init : goal.inputs-init
inputs-init c = rw (c.new-marks.ensures.items, c.in_ok-refused.ensures) (tallied_first _ _ _ _)

pub walk-requires-clause-room : goal.walk-requires-clause-room
walk-requires-clause-room c =
    search (arith, rules, tally_fits _ _ _ _ _ c.requires.packets _ _ _ c.inputs.invariant)

pub inputs-preserved : goal.inputs-preserved
inputs-preserved c =
    let counted = rw c.deref_mut.ensures.value at c.in-Some.ensures.refused in
    rw (with_items_is c.inputs.refused c.walk.new.refused (search (rules, places)))
    (tallied_more _ _ _ _ _ c.requires.packets _ _ _ c.inputs.invariant (omega arith) (omega arith) _ _ _
    (sym c.in-Some.is ∙ c.walk.ensures.mark) counted c.in_ok-push-in-Some.ensures.items)

-- all inputs are walked
ended : (c : After-of-2) →
    Tallied c.args.limits.now c.args.next c.args.schedule.now.came c.args.names.now c.args.schedule.now.ports
    c.inputs.marks.items c.inputs.refused.items
ended c = search (arith, rules, Tallied)

pub returns-clause-stand : goal.returns-clause-stand
returns-clause-stand c = all_stand _ _ _ _ _ c.requires.packets _ _ (ended c)

pub returns-clause-tally : goal.returns-clause-tally
returns-clause-tally c = search (arith, rules, tallies_up, ended)
