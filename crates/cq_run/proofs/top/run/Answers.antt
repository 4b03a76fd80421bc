use Rattle.cq_run.proofs.Terms.{arith, rules, string_bytes, ◌∙◌, sym}
use Rattle.cq_run.proofs.Ends.{words_within}
use Rattle.cq_run.proofs.top.run.Goals as goal

pub obey-requires-clause-range : goal.obey-requires-clause-range
obey-requires-clause-range g c κs within = search (arith, rules, words_within, string_bytes)

pub returns-in-Some : goal.returns-in-Some
returns-in-Some g c = rw (sym c.in_ok-command.ensures.command ∙ c.in-Some.is) c.obey.ensures

pub returns-in_err-command-clause-unbegun : goal.returns-in_err-command-clause-unbegun
returns-in_err-command-clause-unbegun g c = search (arith, rules, g.met.F.Files.lasts_unbegun.none)

pub returns-in-None-clause-unbegun : goal.returns-in-None-clause-unbegun
returns-in-None-clause-unbegun g c = search (arith, rules, g.met.F.Files.lasts_unbegun.none)
