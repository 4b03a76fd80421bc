use Rattle.cq_crew.proofs.Terms.{arith, common_steps, ◌∙◌, IsSome}
use Rattle.cq_crew.proofs.Working.{proposes-same, proposes-next}
use Rattle.cq_crew.proofs.worker.propose_all.Goals as goal

pub proposals-init : goal.proposals-init
proposals-init g c = (c.requires.seat, proposes-same c.args.seat.now.view)

-- the seat is the worker's still
pub proposed-requires-clause-worker : goal.proposed-requires-clause-worker
proposed-requires-clause-worker g c =
    let some : IsSome c.proposals.seat.view.hand = grind (arith, common_steps) in
    (proposes-next _ c.proposals.seat.view c.propose-outcome.new.seat.view c.propose-outcome.result
    c.proposals.invariant.1 some c.propose-outcome.ensures.proposed).began ∙ c.requires.began

pub proposals-preserved : goal.proposals-preserved
proposals-preserved g c =
    let some : IsSome c.proposals.seat.view.hand = grind (arith, common_steps) in (
      c.propose-outcome.ensures.seat,
      proposes-next _ c.proposals.seat.view c.propose-outcome.new.seat.view c.propose-outcome.result
          c.proposals.invariant.1 some c.propose-outcome.ensures.proposed,
    )
