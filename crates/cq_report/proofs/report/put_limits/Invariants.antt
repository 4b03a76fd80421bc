use Rattle.cq_report.proofs.Terms.{◌≡◌, ◌++◌, take, flat_map, limit_line}
use Rattle.cq_report.proofs.report.put_limits.Given as goal

abbrev pub invariant-limits : goal.invariant-limits
invariant-limits l = l.text.items ≡ l.fn.text.items ++ flat_map limit_line (take l.count-index l.refused)
