use Rattle.cq_simulate.proofs.Terms.{arith, rules, IfErr-weaker, IfOk-weaker, Ok, ap, sym, ◌∙◌}
use Rattle.cq_simulate.proofs.FabricLaws.{kept_refuses, sends_as_ideal}
use Rattle.cq_simulate.proofs.TakenUp.{IsMade, can_begin, no_run, run_is_kept, machine_count}
use Rattle.cq_simulate.proofs.fabric_run.run_fabric_packed.Given as given
use Rattle.cq_simulate.proofs.fabric_run.run_fabric_packed.Goals as goal
use Rattle.cq_simulate.proofs.fabric_run.run_fabric_packed.Goals.{In_ok-engine}

-- the engine is made for the tables and the schedule, with room for all that it is to send and to note
made : (g : given.Over) (c : In_ok-engine g) →
    IsMade c.args.tables.now c.args.schedule.now c.in_ok-engine.engine c.in_ok-sent.sent c.in_ok-note.note
made g c = search (arith, rules)

pub run_on-requires : goal.run_on-requires
run_on-requires g c =
    let ready = can_begin (made g (goal.at.run_on-requires g c).In_ok-engine) in search (arith, rules, machine_count)

pub returns-clause-run : goal.returns-clause-run
returns-clause-run g c = search (arith, rules, IfOk-weaker, run_is_kept, made)

pub returns-clause-as_ideal : goal.returns-clause-as_ideal
returns-clause-as_ideal g c = IfOk-weaker c.run_on.result _ _
    (λ run kept. sends_as_ideal c.args.tables.now c.args.schedule.now.came kept.records c.requires.traffic kept.is_run
    ∙ ap Ok (sym kept.sent))
    (returns-clause-run g c)

pub returns-clause-refuses_as_ideal : goal.returns-clause-refuses_as_ideal
returns-clause-refuses_as_ideal g c = search (arith, rules, IfOk-weaker, kept_refuses, returns-clause-run g c)

pub returns-clause-refused : goal.returns-clause-refused
returns-clause-refused g c = IfErr-weaker c.run_on.result _ _
    (no_run (made g (goal.at.returns-clause-refused g c).In_ok-engine)) c.run_on.ensures.refused
