use Rattle.cq_simulate.proofs.Terms.{◌+◌, ◌-◌, ◌≤◌, false, ◌∙◌, arith, rules, sym, err_from_is_err_and}
use Rattle.cq_simulate.proofs.Steps.{Stands, can_run_here, fault_here, left_here, next_here, part_rests, part_stands}
use Rattle.cq_simulate.proofs.parted_run.run_before.Given as given
use Rattle.cq_simulate.proofs.parted_run.run_before.Goals as goal
use Rattle.cq_simulate.proofs.parted_run.run_before.Goals.{After-arrivals-arrivals}

-- ## What is known

-- once slots in which nothing comes are skipped, the run stands at a slot before the last
stands : (g : given.Over) (c : After-arrivals-arrivals g) →
    Stands false c.args.last g.R.Rank.machine c.args.schedule.now.came c.args.engine.now c.args.sent.now
    c.args.note.now c.skip-slot.result (c.args.last - (c.skip-slot.result + 1)) c.skip-slot.new.engine c.slots.sent
    c.slots.note
stands g c = search (arith, rules, part_stands, part_rests, c.skip-slot.ensures.told, c.skip-slot.ensures.idle)

-- ## The loop

pub slot-requires : goal.slot-requires
slot-requires g c =
    let here = stands g (goal.at.slot-requires g c).After-arrivals-arrivals in
    let can = can_run_here here c.arrivals-arrivals.result.now (c.arrivals-arrivals.ensures
    ∙ c.skip-slot.ensures.came) c.slots.sent (omega arith) in search (arith, rules, sym)

pub returns-in_err-slot-clause-fault : goal.returns-in_err-slot-clause-fault
returns-in_err-slot-clause-fault g c =
    let here = stands g (goal.at.returns-in_err-slot-clause-fault g c).After-arrivals-arrivals in
    search (arith, rules, fault_here here, err_from_is_err_and)

pub slots-smaller : goal.slots-smaller
slots-smaller g c = omega arith

pub slots-preserved : goal.slots-preserved
slots-preserved g c =
    let done = c.in_ok-slot.ensures.slot in
    let next = next_here (stands g (goal.at.slots-preserved g c).After-arrivals-arrivals) (c.arrivals-arrivals.ensures
    ∙ c.skip-slot.ensures.came) done (left_here done) in
    search (arith, rules, next)

pub returns-then-slot-last-clause-run : goal.returns-then-slot-last-clause-run
returns-then-slot-last-clause-run g c =
    let rests = part_rests g.R.Rank.machine c.slots.invariant.crossing c.slots.invariant.before c.skip-slot.ensures.late
    (λ lt. let told = (c.skip-slot.ensures.told (c.skip-slot.ensures.idle lt)).1 in search rules)
    c.skip-slot.ensures.rested in
    let parts = rests.0 in
    let within : c.skip-slot.result ≤ c.args.last = rests.1 in search (arith, rules)

pub returns-clause-run : goal.returns-clause-run
returns-clause-run g c = search (arith, rules)
