use Rattle.cq_scfq.proofs.Alike.{for_one_switch}
use Rattle.cq_scfq.proofs.discipline.Discipline.all.Goals as goal

pub returns-clause-one_switch : goal.returns-clause-one_switch
returns-clause-one_switch c = for_one_switch c.args.setup.now
