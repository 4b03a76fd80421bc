use Rattle.cq_tables.proofs.Terms.{arith, rules, ap, not, ◌∙◌}
use Rattle.cq_tables.proofs.Walk.{has, has-insert, set_has}
use Rattle.cq_tables.proofs.addresses.is_added.Goals as goal

pub returns-clause-new : goal.returns-clause-new
returns-clause-new c = c.in_ok-insert.ensures.added ∙ ap not (set_has c.args.mac c.args.known.now.keys)

pub returns-clause-known : goal.returns-clause-known
returns-clause-known c q = search (arith, rules, has, has-insert)
