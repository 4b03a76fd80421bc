use Rattle.cq_run.proofs.Terms.{◌≡◌, ◌≤◌, ◌+◌, ◌++◌, drop, length, under_names}
use Rattle.cq_run.proofs.build.put_captures.Given as goal

-- what was put, with what is to be put for the rows that are left, is all
abbrev pub invariant-ports : goal.invariant-ports
invariant-ports l = record {
  enough : length l.rows ≤ l.row-index + length l.places;
  made : l.writes.items ++ under_names (drop l.row-index l.rows) l.places
      ≡ l.fn.writes.items ++ under_names l.rows l.fn.places;
}
