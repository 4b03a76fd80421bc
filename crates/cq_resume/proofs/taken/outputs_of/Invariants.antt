use Rattle.cq_resume.proofs.Terms.{◌≡◌, map, take, range_with_len, output_told}
use Rattle.cq_resume.proofs.taken.outputs_of.Given as goal

abbrev pub invariant-sent : goal.invariant-sent
invariant-sent l = l.outputs.items ≡ map (output_told (take l.departure-index l.sent)) (range_with_len 0 l.ports)
