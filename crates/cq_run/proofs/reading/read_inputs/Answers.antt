use Rattle.cq_run.proofs.Terms.{rules, arith, sym, length-append}
use Rattle.cq_run.proofs.Chain.{fails_after, judges_then, stands_as, stands_back, stands_on, packets_stay, from_front}
use Rattle.cq_run.proofs.Ports.{first_left, next_left, none_left}
use Rattle.cq_run.proofs.Reached.{exit_is}
use Rattle.cq_run.proofs.reading.read_inputs.Goals as goal

pub ports-init : goal.ports-init
ports-init g c = search (arith, rules, first_left, g.F.Files.space, g.met.F.Files.lasts_unbegun.none)

pub ports-preserved : goal.ports-preserved
ports-preserved g c = record {
  stands = λ r. rw c.in_ok-put_capture.ensures (stands_on _ (packets_stay r _ _ _)
      (stands_as (next_left r _ _ _ c.ports-test.true c.index-rows-input.is) (c.ports.invariant.stands r))
      (c.in_ok-capture.ensures.judges r));
  each = search (arith, rules, length-append);
  closed = (c.in_ok-capture.ensures.judges from_front).closed;
  kept = search (arith, rules, g.met.F.Files.lasts_unbegun.both);
}

pub returns-in_err-capture-clause-judges : goal.returns-in_err-capture-clause-judges
returns-in_err-capture-clause-judges g c = λ r. rw (exit_is _ c.from_residual.ensures.1, sym c.as_slice-rows.ensures)
    (stands_back (λ name. fails_after g.met.F.Files.lasts_unbegun (c.ports.invariant.stands r).uncounted
    c.ports.invariant.kept) (stands_as (next_left r _ _ _ c.ports-test.true c.index-rows-input.is)
    (c.ports.invariant.stands r)) (judges_then _ (λ name u. u) (c.in_err-capture.ensures.judges r)))

pub returns-in_err-put_capture-clause-judges : goal.returns-in_err-put_capture-clause-judges
returns-in_err-put_capture-clause-judges g c =
    λ r. search (arith, rules, exit_is, c.ports.invariant.stands r, c.in_ok-capture.ensures.judges r)

pub returns : goal.returns
returns g c = record {
  judges = λ r. search (arith, rules, none_left, c.ports.invariant.stands r);
  kept = c.ports.invariant.kept;
  each = search (arith, rules);
}

-- ## No writing was begun

pub returns-in_err-capture-clause-kept : goal.returns-in_err-capture-clause-kept
returns-in_err-capture-clause-kept g c = search (arith, rules, g.met.F.Files.lasts_unbegun.both)

pub returns-in_err-put_capture-clause-kept : goal.returns-in_err-put_capture-clause-kept
returns-in_err-put_capture-clause-kept g c = search (arith, rules, g.met.F.Files.lasts_unbegun.both)
