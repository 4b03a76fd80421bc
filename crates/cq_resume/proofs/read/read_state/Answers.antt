use Rattle.cq_resume.proofs.Terms.{rules, arith, switch_of, length-map}
use Rattle.cq_resume.proofs.Scheduling.{schedule_known}
use Rattle.cq_resume.proofs.GoesOn.{state_again}
use Rattle.cq_resume.proofs.read.read_state.Goals as goal

pub has_shape-requires-clause-few : goal.has_shape-requires-clause-few
has_shape-requires-clause-few c = let most = c.requires.tables.setup.classes in omega arith

pub has_shape-requires-clause-told : goal.has_shape-requires-clause-told
has_shape-requires-clause-told c = c.in_ok-state.ensures.read.0.outputs_told

pub judge-requires : goal.judge-requires
judge-requires c =
    let known = schedule_known _ _ c.requires.tables c.requires.schedule in
    search (arith, rules, c.in_ok-state.ensures.read, c.has_shape.ensures)

pub returns-clause-written : goal.returns-clause-written
returns-clause-written c =
    let again = state_again (switch_of c.args.tables.now c.args.schedule.now) in
    let known = schedule_known _ _ c.requires.tables c.requires.schedule in
    search (arith, rules, again, known, length-map, c.in_ok-state.ensures.read)
