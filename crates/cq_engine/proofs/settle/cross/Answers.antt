use Rattle.cq_engine.proofs.Terms.{◌≡◌, ◌∙◌, ℕ, [], sym, subst, Orders, outputs_of}
use Rattle.cq_prefs.proofs.Offering.{none_offers}
use Rattle.cq_engine.proofs.NoOffers.{nothing_crosses}
use Rattle.cq_engine.proofs.settle.cross.Goals as goal

pub returns-then-are_none : goal.returns-then-are_none
returns-then-are_none g c = nothing_crosses c.args.slot c.args.phase c.args.queues.now c.args.note.now
    (subst (λ (p : Orders). (i : ℕ) → outputs_of p i ≡ []) c.offers.ensures
    (none_offers c.offers.result.now.outputs (sym c.are_none.ensures ∙ c.if-are_none.true)))
