use Rattle.cq_report.proofs.Terms.{◌≡◌, ◌++◌, take, flat_map}
use Rattle.cq_report.proofs.texts.text_of.Given as goal

abbrev pub invariant-items : goal.invariant-items
invariant-items g l = l.text.items ++ l.sheet ≡ flat_map g.T.Lined.line (take l.item-index l.items)
