use Rattle.cq_engine.proofs.Terms.{◌≡◌, ◌+◌, ◌++◌, ◌≤◌, length, crossings}
use Rattle.cq_engine.proofs.straight.note_each.Given as goal

-- the cells of the inputs before this one are noted
abbrev pub invariant-inputs : goal.invariant-inputs
invariant-inputs l = record {
  items : l.note.items ≡ l.fn.note.items ++ crossings l.slot l.input l.came;
  room : l.note.spare + length (crossings l.slot l.input l.came) ≡ l.fn.note.spare;
  few : l.fn.note.spare ≤ l.note.spare + l.input;
}
