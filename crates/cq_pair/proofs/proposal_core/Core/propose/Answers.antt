use Rattle.cq_pair.proofs.Terms.{rules, refl, arith, outputs_at_most}
use Rattle.cq_pair.proofs.Reached.{places_known, waiting-reached}
use Rattle.cq_pair.proofs.Proposing.{few_made, rejected, holding, displaced, input_known, output_known, can_take, can_part, can_take_then, held_inside}
use Rattle.cq_pair.proofs.proposal_core.Core.propose.Goals as goal

pub move_on-requires : goal.move_on-requires
move_on-requires c =
    let most = outputs_at_most c.args.offers.now c.asked_by-asked.ensures.ask.offers c.args.input in
    search (arith, rules, input_known, places_known, few_made, waiting-reached)

pub returns-in_default : goal.returns-in_default
returns-in_default c = let r = rejected c.asked_by-asked.ensures.ask c.move_on.ensures c.in_default.is in search (rules)

-- ## The output held nobody

pub take-requires : goal.take-requires
take-requires c = search (arith, rules, can_take c.asked_by-asked.ensures.ask)

pub returns-then-asked-ports : goal.returns-then-asked-ports
returns-then-asked-ports c = search (rules, holding c.asked_by-asked.ensures.ask c.move_on.ensures c.in-Some.is)

-- ## The output held another input

pub inputs_of-requires : goal.inputs_of-requires
inputs_of-requires c = output_known c.asked_by-asked.ensures.ask

pub bounds-inputs_of-asked : goal.bounds-inputs_of-asked
bounds-inputs_of-asked c = search (arith, rules, held_inside c.asked_by-asked.ensures.ask)

pub part-requires : goal.part-requires
part-requires c =
    let can = can_part c.asked_by-asked.ensures.ask c.move_on.ensures c.inputs_of.ensures refl c.ports.ensures.value
    c.if-asked-ports.false in
    search (arith, rules)

pub take-requires-2 : goal.take-requires-2
take-requires-2 c = search (arith, rules, can_take_then c.asked_by-asked.ensures.ask)

pub returns : goal.returns
returns c =
    let r = displaced c.asked_by-asked.ensures.ask c.move_on.ensures c.inputs_of.ensures refl c.ports.ensures.value
    c.if-asked-ports.false c.part.ensures c.in-Some.is c.take-2.ensures in search (rules)
