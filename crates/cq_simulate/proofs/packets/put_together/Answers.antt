use Rattle.cq_simulate.proofs.Terms.{drop_all, drop_more, has_at, rules, arith, append-nil, None, Some, sym, ◌∙◌}
use Rattle.cq_simulate.proofs.AllPacked.{all_are_made, at_first, at_other, can_join, went_on}
use Rattle.cq_simulate.proofs.packets.put_together.Goals as goal
use Rattle.cq_simulate.proofs.packets.put_together.Goals.{then-departure-output+in_ok-left+in-Some+in_ok-push, then-departure-output+in_ok-left+in_default, else-departure-output}

pub departures-init : goal.departures-init
departures-init c = search (arith, rules, at_first)

pub take-requires : goal.take-requires
take-requires c =
    let sent = c.args.sent.now in
    let first = drop_more sent c.departures.departure-index _ c.departures-test.true in
    let can = can_join first c.departures.invariant c.if-departure-output.true c.requires.of in
    search (arith, rules, can, has_at sent c.departures.departure-index)

pub departures-preserved : goal.departures-preserved
departures-preserved c =
    let first = drop_more c.args.sent.now c.departures.departure-index _ c.departures-test.true in
    elim c.if-departure-output.branch [
      | then-departure-output+in_ok-left+in-Some+in_ok-push w ↦ rw (w.joiner-is, w.packets-is)
          (went_on first c.departures.invariant w.if-departure-output.true (search (arith, rules))
          (Some w.in-Some.packet) (sym w.in-Some.is ∙ w.in_ok-left.ensures.packet)
          w.in_ok-push.ensures.items (rw w.in-Some.is at w.in_ok-left.ensures.body))
      | then-departure-output+in_ok-left+in_default w ↦ rw (w.joiner-is, w.packets-is)
          (went_on first c.departures.invariant w.if-departure-output.true (search (arith, rules)) None
          (sym w.in_default.is ∙ w.in_ok-left.ensures.packet) (sym (append-nil c.departures.packets.items)) tt)
      | else-departure-output w ↦ rw (w.joiner-is, w.packets-is)
          (at_other first c.departures.invariant w.if-departure-output.false)
    ]

pub returns-clause-packets : goal.returns-clause-packets
returns-clause-packets c = search (arith, rules, all_are_made, drop_all)
