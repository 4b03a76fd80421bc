use Rattle.cq_report.proofs.Terms.{◌≡◌, ◌++◌, length, flat_map, log_line}
use Rattle.cq_report.proofs.texts.log_text_of_room.Given as goal

-- the lines so far, and then those of what is left, are all
abbrev pub invariant-transfers : goal.invariant-transfers
invariant-transfers l = (l.text.items ++ l.sheet) ++ flat_map log_line l.left ≡ flat_map log_line l.fn.note.items

abbrev pub decreases-transfers : goal.decreases-transfers
decreases-transfers l = length l.left
