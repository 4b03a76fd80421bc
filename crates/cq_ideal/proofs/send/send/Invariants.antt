use Rattle.cq_ideal.proofs.Terms.{◌≡◌, ◌+◌, ◌++◌, ◌≤◌, length, map, drop, all_told, fronts, rests, departures_from, departures_in, HoldsLists, JudgesAsBefore}
use Rattle.cq_ideal.proofs.Changed.{changed_to}
use Rattle.cq_ideal.proofs.send.send.Given as goal

-- Behind this output all is as the slot leaves it, and from it on as the slot found it: that is so for the lists and
-- for the states of the machines. What is sent so far, and then the departures of the outputs from this one on, are all
-- departures of the slot. Each output that sends a cell holds it no longer.
abbrev pub invariant-outputs : goal.invariant-outputs
invariant-outputs g l = record {
  fixed : l.ranks.fixed ≡ l.initial.ranks.fixed;
  rooms : l.queues.rooms ≡ l.initial.queues.rooms;
  long : length l.queues.lists ≡ length l.initial.queues.lists;
  states : l.ranks.states
      ≡ changed_to (all_told (map g.R.Rank.machine l.initial.ranks.fixed) (fronts l.initial.queues.lists)
      l.initial.ranks.states) l.initial.ranks.states l.output;
  lists : l.queues.lists ≡ changed_to (rests l.initial.queues.lists) l.initial.queues.lists l.output;
  items : l.sent.items ++ departures_from l.slot l.output (drop l.output (fronts l.initial.queues.lists))
      ≡ l.initial.sent.items ++ departures_in l.slot (fronts l.initial.queues.lists);
  spare : l.sent.spare + length l.sent.items ≡ l.initial.sent.spare + length l.initial.sent.items;
  room : length l.initial.queues.lists ≤ l.sent.spare + l.output;
  holds : HoldsLists l.queues.lists l.limiter;
  judges : JudgesAsBefore l.initial.limiter l.limiter;
}
