use Rattle.cq_run.proofs.Terms.{arith, rules, common_steps, refl}
use Rattle.cq_run.proofs.Reached.{begun, read_ends, read_on, settled, exit_is}
use Rattle.cq_run.proofs.Chain.{tables_stay}
use Rattle.cq_run.proofs.judge.check.Goals as goal

pub returns-in_err-tables : goal.returns-in_err-tables
returns-in_err-tables g c = search (arith, rules, exit_is, read_ends, begun, g.met.F.Files.lasts_unbegun)

pub returns : goal.returns
returns g c = settled (read_on _ g.met.F.Files.lasts_unbegun (begun (λ s. refl) g.met.F.Files.lasts_unbegun c.requires)
    c.read_configuration.ensures.kept (λ r. tables_stay c.args.config) (λ r. c.in_ok-tables.ensures.judges))
    c.say_check-work.result
    (search (arith, rules)) (grind (arith, common_steps)) (λ r. grind (arith, common_steps))
