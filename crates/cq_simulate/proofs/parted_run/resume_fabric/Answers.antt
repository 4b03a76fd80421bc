use Rattle.cq_simulate.proofs.Terms.{arith, rules, ◌∙◌, IfErr-weaker, IfOk-weaker}
use Rattle.cq_simulate.proofs.TakenUp.{resumed_of, machine_count, runs_on}
use Rattle.cq_simulate.proofs.parted_run.resume_fabric.Goals as goal

pub run_on-requires-clause-ready : goal.run_on-requires-clause-ready
run_on-requires-clause-ready g c = λ _ _. runs_on c.requires.sound c.requires.fit c.in_ok-engine.engine
    c.in_ok-engine.ensures c.in_ok-sent.sent c.in_ok-note.note c.port_count-count.ensures c.total-total.ensures.cells
    c.total-total.ensures.few c.in_ok-sent.ensures.spare c.in_ok-note.ensures.spare

pub run_on-requires-clause-ports : goal.run_on-requires-clause-ports
run_on-requires-clause-ports g c = search (arith, rules, machine_count)

pub returns-clause-run : goal.returns-clause-run
returns-clause-run g c = IfOk-weaker c.run_on.result _ _ (λ run kept. resumed_of c.args.tables.now c.args.schedule.now
    c.in_ok-engine.engine c.args.taken.now c.in_ok-engine.ensures c.in_ok-sent.sent c.in_ok-note.note run kept
    (c.in_ok-sent.ensures.items ∙ c.as_slice.ensures) (c.in_ok-note.ensures.items ∙ c.as_slice-2.ensures))
    c.run_on.ensures.run

pub returns-clause-refused : goal.returns-clause-refused
returns-clause-refused g c = search (arith, rules, IfErr-weaker)
