use Rattle.cq_engine.proofs.Terms.{◌≡◌, ◌+◌, ◌++◌, ◌≤◌, drop, length, departures_from, departures_in}
use Rattle.cq_engine.proofs.depart.send.Given as goal

-- what is sent so far, and then the departures of the outputs from this one on, are all departures of the slot
abbrev pub invariant-outputs : goal.invariant-outputs
invariant-outputs l = record {
  items : l.sent.items ++ departures_from l.slot l.output (drop l.output l.gone) ≡ l.fn.sent.items ++ departures_in
      l.slot l.gone;
  spare : l.sent.spare + length l.sent.items ≡ l.fn.sent.spare + length l.fn.sent.items;
  room : length l.gone ≤ l.sent.spare + l.output;
}
