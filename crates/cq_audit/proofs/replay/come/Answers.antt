use Rattle.cq_audit.proofs.Terms.{arith, rules}
use Rattle.cq_audit.proofs.Slots.{apart, fit, held_fits, no_fault}
use Rattle.cq_audit.proofs.replay.come.Goals as goal

pub judge-requires-clause-held : goal.judge-requires-clause-held
judge-requires-clause-held g c = search (arith, rules, held_fits)

pub unreachable-requires : goal.unreachable-requires
unreachable-requires g c = no_fault g.R.Rank.machine c.args.ranks.now c.args.queues.now c.args.limiter.now c.requires
    c.judge.new.self.marks c.judge.ensures.marks _ c.in-Err.ensures.fault

pub arrive-requires-clause-fit : goal.arrive-requires-clause-fit
arrive-requires-clause-fit g c = fit g.R.Rank.machine c.args.ranks.now c.args.queues.now c.args.limiter.now c.requires
    c.judge.new.self.marks _ _ c.in_default.ensures.came

pub arrive-requires-clause-come : goal.arrive-requires-clause-come
arrive-requires-clause-come g c = apart g.R.Rank.machine c.args.ranks.now c.args.queues.now c.args.limiter.now
    c.requires c.judge.new.self.marks _ _ c.in_default.ensures.came
