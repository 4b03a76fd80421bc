use Rattle.cq_fabric.proofs.Terms.{◌≡◌, length, map, take, drop, front_of, popped, changed_to, most_ports}
use Rattle.cq_fabric.proofs.gone.pop_each.Given as goal

-- the first cells of the buffers before this one have left
abbrev pub invariant-outputs : goal.invariant-outputs
invariant-outputs l = record {
  long : length l.gone ≡ most_ports;
  gone : take l.output l.gone ≡ take l.output (map front_of l.fn.buffers);
  others : drop l.output l.gone ≡ drop l.output l.fn.gone;
  buffers : l.buffers ≡ changed_to (map popped l.fn.buffers) l.fn.buffers l.output;
}
