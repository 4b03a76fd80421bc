use Rattle.cq_simulate.proofs.Terms.{◌≡◌, max, drop, slots_of}
use Rattle.cq_simulate.proofs.ideal_run.slots_of.Given as goal

abbrev pub invariant-departures : goal.invariant-departures
invariant-departures l = max l.slots (slots_of (drop l.departure-index l.sent)) ≡ slots_of l.sent
