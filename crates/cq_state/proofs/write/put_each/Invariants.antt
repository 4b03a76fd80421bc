use Rattle.cq_state.proofs.Terms.{◌≡◌, ◌≤◌, ◌++◌, drop, length, map, flat_map, line_by, spelled, longest_text}
use Rattle.cq_state.proofs.write.put_each.Given as goal

-- what is put, with the lines that are still to come, is all
abbrev pub invariant-items : goal.invariant-items
invariant-items g l = record {
  lines : l.text.items ++ flat_map spelled (map (line_by l.kind g.T.Told.fields) (drop l.item-index l.items))
      ≡ l.fn.text.items ++ flat_map spelled (map (line_by l.kind g.T.Told.fields) l.items);
  short : length l.fn.text.items ≤ longest_text → length l.text.items ≤ longest_text;
}
