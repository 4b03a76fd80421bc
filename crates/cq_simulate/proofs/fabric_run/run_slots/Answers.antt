use Rattle.cq_simulate.proofs.Terms.{◌+◌, ◌-◌, true, ◌∙◌, arith, rules, sym, err_from_is_err_and, quiet_of, cases_lt}
use Rattle.cq_simulate.proofs.Steps.{over_by, Stands, can_run_here, fault_here, left_here, next_here, run_stands, free_again, goes_on, left_with_all}
use Rattle.cq_simulate.proofs.fabric_run.run_slots.Given as given
use Rattle.cq_simulate.proofs.fabric_run.run_slots.Goals as goal
use Rattle.cq_simulate.proofs.fabric_run.run_slots.Goals.{After-arrivals}

-- ## What is known

-- once quiet slots are skipped, the run stands at a slot that it has to run
stands : (g : given.Over) (c : After-arrivals g) →
    Stands true (over_by c.args.schedule.now.came c.args.engine.now.next) g.R.Rank.machine c.args.schedule.now.came
    c.args.engine.now c.args.sent.now c.args.note.now c.skip-slot.result
    (over_by c.args.schedule.now.came c.args.engine.now.next - (c.skip-slot.result + 1)) c.skip-slot.new.engine
    c.slots.sent c.slots.note
stands g c = run_stands g.R.Rank.machine c.slots.invariant.runs (goes_on c.slots-test.true c.is_over.ensures)
    c.skip-slot.ensures.late (λ lt. let told = (c.skip-slot.ensures.told (c.skip-slot.ensures.idle lt)).1 in
    search (rules, quiet_of)) c.skip-slot.ensures.rested

-- ## The loop

pub slot-requires : goal.slot-requires
slot-requires g c =
    let here = stands g (goal.at.slot-requires g c).After-arrivals in
    let can = can_run_here here c.arrivals.result.now (c.arrivals.ensures ∙ c.skip-slot.ensures.came) c.slots.leaving
    (omega arith) in search (arith, rules, sym)

pub returns-in_err-slot-clause-refused : goal.returns-in_err-slot-clause-refused
returns-in_err-slot-clause-refused g c =
    let here = stands g (goal.at.returns-in_err-slot-clause-refused g c).After-arrivals in
    let count = c.skip-slot.result + 1 - c.args.engine.now.next in
    let stops = fault_here here c.arrivals.result.now c.in_err-slot.field-0.0 count in
    search (arith, rules, stops, err_from_is_err_and)

pub overflow_add-slot : goal.overflow_add-slot
overflow_add-slot g c = let here = stands g (goal.at.overflow_add-slot g c).After-arrivals in omega arith

pub slots-smaller : goal.slots-smaller
slots-smaller g c = let here = stands g (goal.at.slots-smaller g c).After-arrivals in omega arith

pub slots-preserved : goal.slots-preserved
slots-preserved g c =
    let done = c.in_ok-slot.ensures.slot in
    let here = stands g (goal.at.slots-preserved g c).After-arrivals in
    let free = c.slots.invariant.free in
    let put = left_with_all free (left_here done) c.take_all.ensures.items c.take_all.ensures.spare in
    let next = next_here here (c.arrivals.ensures ∙ c.skip-slot.ensures.came) done put in
    search (arith, rules, next, free_again free (left_here done))

pub returns-clause-run : goal.returns-clause-run
returns-clause-run g c = search (arith, rules, cases_lt, c.is_over.ensures)
