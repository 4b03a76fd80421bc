use Rattle.cq_cells.proofs.Terms.{◌≡◌, length, vec_len, vec_capacity}
use Rattle.cq_cells.proofs.Packets.{IsSoFar}
use Rattle.cq_cells.proofs.line.Line.of.Given as goal

abbrev pub invariant-packets : goal.invariant-packets
invariant-packets l = record {
  so_far : IsSoFar l.tables l.captures l.input l.k l.rows.items l.free l.cells l.fn.to_output l.to_output;
  filled : vec_len l.rows ≡ l.k;
  room : vec_capacity l.rows ≡ length l.packets;
}
