-- The cells that came, put at the places of their outputs. Two of them are for one output where the place is taken by
-- one that came before.
use Rattle.cq_engine.proofs.Terms.{rules, arith, length-set, came_to, common_steps, ◌≡◌, ℕ, ◌+◌, ◌<◌, List, length, Option, Some, None, is_some, slice_set, false, cases_lt, get_or-set_other, get_or-set_same, same_Some, Queued, some_of, AreApart, AreSent}
use Rattle.cq_engine.proofs.straight.fill.Goals as goal

free_of : (o : Option Queued) → is_some o ≡ false → o ≡ None
free_of o e = grind (arith, common_steps)

module _ (inputs outputs : ℕ) (came gone : List (Option Queued)) (sent : AreSent inputs outputs came gone) where
  -- a cell that came before is not for an output whose place is free
  not_for : (i : ℕ) (c d : Queued) → i < inputs → came_to came i ≡ Some d → came_to gone c.cell.output ≡ None →
      d.cell.output ≡ c.cell.output → ⊥
  not_for i c d inside at free same = grind (arith, common_steps)

  apart_more : (c : Queued) → AreApart inputs came → came_to came inputs ≡ Some c →
      came_to gone c.cell.output ≡ None → AreApart (inputs + 1) came
  apart_more c apart at free i k a b i_in k_in at_a at_b same = search (rules, same_Some, not_for, cases_lt)

  -- where the place is taken two cells are for its output
  not_apart : (ports : ℕ) (c d : Queued) → came_to came inputs ≡ Some c → came_to gone c.cell.output ≡ Some d →
      c.cell.output < outputs → inputs < ports → AreApart ports came → ⊥
  not_apart ports c d at taken inside below apart = search (arith, rules, sent.only c.cell.output d inside taken)

  -- a cell that is put at a free place
  sent_more : (c : Queued) → came_to came inputs ≡ Some c → came_to gone c.cell.output ≡ None →
      c.cell.output < length gone → AreSent (inputs + 1) outputs came (slice_set gone c.cell.output (Some c))
  sent_more c at free inside =
      record {
        each = search (arith, rules, get_or-set_other, not_for, same_Some, get_or-set_same, cases_lt);
        only = λ j d j_in there. grind (arith, common_steps, get_or-set_other, get_or-set_same, sent.only j d j_in);
      }

  sent_past : came_to came inputs ≡ None → AreSent (inputs + 1) outputs came gone
  sent_past none =
      record { each = search (arith, rules, cases_lt); only = λ j d. search (arith, rules, sent.only j d) }

pub returns-then-is_some-clause-apart : goal.returns-then-is_some-clause-apart
returns-then-is_some-clause-apart c =
    let queued = c.in-Some.queued in
    let there = some_of (came_to c.inputs.gone queued.cell.output) (search (arith, rules)) in
    let never = not_apart c.inputs.input c.args.ports c.args.came.now c.inputs.gone c.inputs.invariant.sent
    c.args.ports queued there.0 in
    (λ no. cc no, search (arith, rules, never, there, c.requires.outputs))

pub inputs-preserved : goal.inputs-preserved
inputs-preserved c =
    search (arith, rules, free_of, length-set, c.requires.outputs, sent_more, apart_more, sent_past, cases_lt)
