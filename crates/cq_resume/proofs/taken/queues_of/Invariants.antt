use Rattle.cq_resume.proofs.Terms.{◌≡◌, map, range_with_len}
use Rattle.cq_resume.proofs.Cut.{buffered_at, listed_at}
use Rattle.cq_resume.proofs.taken.queues_of.Given as goal

abbrev pub invariant-ports : goal.invariant-ports
invariant-ports l = record {
  lists : l.lists.items ≡ map (listed_at l.listed) (range_with_len 0 l.port);
  buffers : l.buffers.items ≡ map (buffered_at l.buffered) (range_with_len 0 l.port);
}
