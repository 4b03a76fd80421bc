use Rattle.cq_ledger.proofs.Terms.{rules, ◌∙◌, sym, set_again}
use Rattle.cq_ledger.proofs.Allowed.{proposal-event, words-same}
use Rattle.cq_ledger.proofs.CoreState.{core_state-is}
use Rattle.cq_ledger.proofs.Proposing.{claim-keeps, refuse-keeps}
use Rattle.cq_ledger.proofs.Seats.{start-keeps, longer-keeps, join-keeps}
use Rattle.cq_ledger.proofs.Views.{dealt}
use Rattle.cq_ledger.proofs.laws.step_is_event.Goals as goal

-- a proposal is an event, and with every other step the list of events behind the rule stays as it is
pub returns : goal.returns
unfolding start-keeps claim-keeps refuse-keeps longer-keeps join-keeps dealt
returns c = record {
  start = λ o v few. core_state-is o _ _ (start-keeps o v few);
  proposal = λ o words views id i p v m h. proposal-event o words views m.rule id i v m.sits p h m.offers;
  claim_taken = λ o words views id i v m empty r clear.
      core_state-is o _ _ (claim-keeps o words views m.rule id i v m.sits m.offers r clear empty)
      ∙ sym (core_state-is o words views m.rule);
  claim_refused = λ o words views id i v m claimed. rw (words-same words i claimed)
      (core_state-is o words _ (refuse-keeps o words views m.rule id i v m.sits m.offers claimed)
      ∙ sym (core_state-is o words views m.rule));
  split = λ o words views id v m. rw (set_again views id v m.sits)
      (core_state-is o words _ (longer-keeps o words views m.rule o (search (rules)))
      ∙ sym (core_state-is o words views m.rule));
  join = λ o words views id other v w m at apart empty empty_other.
      core_state-is o words _
      (join-keeps o words views m.rule id v m.sits other w apart at empty empty_other m.offers)
      ∙ sym (core_state-is o words views m.rule);
}
