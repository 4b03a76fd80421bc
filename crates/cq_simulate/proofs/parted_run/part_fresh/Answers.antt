use Rattle.cq_simulate.proofs.Terms.{rules, arith, err_from_is_err_and}
use Rattle.cq_simulate.proofs.TakenUp.{IsMade, can_begin, machines_many}
use Rattle.cq_simulate.proofs.parted_run.part_fresh.Given as given
use Rattle.cq_simulate.proofs.parted_run.part_fresh.Goals as goal
use Rattle.cq_simulate.proofs.parted_run.part_fresh.Goals.{In_ok-note}

-- the engine is made for the tables and the schedule, with room for all that it is to send and to note
made : (g : given.Over) (c : In_ok-note g) →
    IsMade c.args.tables.now c.args.schedule.now c.args.engine.now c.in_ok-sent.sent c.in_ok-note.note
made g c = search (arith, rules)

pub run_before-requires-clause-ready : goal.run_before-requires-clause-ready
run_before-requires-clause-ready g c =
    let ready = can_begin (made g (goal.at.run_before-requires-clause-ready g c).In_ok-note) in search (arith, rules)

pub freeze-requires : goal.freeze-requires
freeze-requires g c = c.in_ok-run_before.ensures.run.went.running

pub returns-in_err-run_before-clause-refused : goal.returns-in_err-run_before-clause-refused
returns-in_err-run_before-clause-refused g c =
    let begins = made g (goal.at.returns-in_err-run_before-clause-refused g c).In_ok-note in
    search (arith, rules, machines_many, err_from_is_err_and)

pub returns-clause-parted : goal.returns-clause-parted
returns-clause-parted g c =
    let begins = made g (goal.at.returns-clause-parted g c).In_ok-note in
    search (arith, rules, begins.fresh.fresh, begins.fresh.machines, machines_many)
