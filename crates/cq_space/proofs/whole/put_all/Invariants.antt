use Rattle.cq_space.proofs.Terms.{length, ◌-◌, ◌≡◌, ◌≤◌, take, append_known}
use Rattle.cq_space.proofs.whole.put_all.Given as goal

abbrev pub invariant-loop-taken : goal.invariant-loop-taken
invariant-loop-taken g l = record {
  put : g.S.Sink.taken l.sink ≡ append_known (g.S.Sink.taken l.fn.sink) (take l.taken l.bytes);
  within : l.taken ≤ length l.bytes;
  uncounted : g.S.Sink.faults l.sink ≡ g.S.Sink.faults l.fn.sink;
  kept : g.S.Sink.keeps l.fn.sink l.sink;
}

abbrev pub decreases-loop-taken : goal.decreases-loop-taken
decreases-loop-taken g l = length l.bytes - l.taken
