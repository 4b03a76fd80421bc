use Rattle.cq_simulate.proofs.Terms.{slots_within, ◌+◌, ◌-◌, suc, rules, map, ◌∙◌, arith, err_from_is_err_and, enough}
use Rattle.cq_simulate.proofs.Steps.{Running, at_end, at_fault, at_next, can_have, free_again, goes_on, stands as stands_at}
use Rattle.cq_simulate.proofs.ideal_run.run_slots.Given as given
use Rattle.cq_simulate.proofs.ideal_run.run_slots.Goals as goal
use Rattle.cq_simulate.proofs.ideal_run.run_slots.Goals.{After-arrivals}

-- ## What is known

-- once quiet slots are skipped, the run stands at a slot that is to be run
stands : (g : given.Over) (c : After-arrivals g) →
    Running (map g.R.Rank.machine c.args.ideal.now.fixed) c.args.schedule.now.came c.args.ideal.now c.args.sent.now
    c.skip-slot.result (suc (enough c.args.schedule.now.came - (c.skip-slot.result + 1))) c.skip-slot.new.ideal
    c.slots.sent
stands g c = stands_at g.R.Rank.machine c.slots.invariant.runs c.skip-slot.ensures.quiet c.skip-slot.ensures.rested
    (goes_on c.slots-test.true c.is_over.ensures)

-- ## The loop

pub slot-requires : goal.slot-requires
slot-requires g c =
    let here = stands g (goal.at.slot-requires g c).After-arrivals in
    can_have g.R.Rank.machine here (c.arrivals.ensures ∙ c.skip-slot.ensures.came) c.slots.invariant.free

pub returns-in_err-slot-clause-refused : goal.returns-in_err-slot-clause-refused
returns-in_err-slot-clause-refused g c =
    let here = stands g (goal.at.returns-in_err-slot-clause-refused g c).After-arrivals in
    search (arith, rules, at_fault g.R.Rank.machine here, err_from_is_err_and)

pub slots-smaller : goal.slots-smaller
slots-smaller g c = let here = stands g (goal.at.slots-smaller g c).After-arrivals in omega arith

pub slots-preserved : goal.slots-preserved
slots-preserved g c =
    let here = stands g (goal.at.slots-preserved g c).After-arrivals in
    search (arith, rules, at_next g.R.Rank.machine here, free_again)

pub returns-clause-sent : goal.returns-clause-sent
returns-clause-sent g c = at_end c.slots.invariant.runs (c.is_over.ensures.0 c.slots-test.false)

pub returns-clause-early : goal.returns-clause-early
returns-clause-early g c =
    search (arith, rules, slots_within 0 c.slots.invariant.runs.ran.gone, c.slots.invariant.runs.ready.short)
