use Rattle.cq_cells.proofs.Terms.{◌≡◌, ℕ, ◌*◌, ◌^◌, ◌<◌, ◌≤◌, length, map, slice_index_or, vec_len, vec_capacity, range_with_len, AreAdded, all_of, arrivals_at, packets_of, IsRecorded}
use Rattle.cq_cells.proofs.schedule.lines_of.Given as goal

abbrev pub invariant-inputs : goal.invariant-inputs
invariant-inputs g l = record {
  lines : l.lines.items ≡ map (arrivals_at l.tables l.captures) (range_with_len 0 l.input);
  filled : vec_len l.lines ≡ l.input;
  room : vec_capacity l.lines ≡ length l.captures;
  recorded : (i : ℕ) → i < l.input → IsRecorded (packets_of l.captures i);
  ports : length l.to_output ≡ length l.fn.to_output;
  counts : AreAdded (all_of l.lines.items) l.fn.to_output l.to_output;
  small : (j : ℕ) → j < length l.fn.to_output → slice_index_or l.to_output j 0 ≤ l.input * 2 ^ 28;
}
