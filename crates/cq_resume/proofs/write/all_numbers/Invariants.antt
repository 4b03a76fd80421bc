use Rattle.cq_resume.proofs.Terms.{◌≡◌, take}
use Rattle.cq_resume.proofs.write.all_numbers.Given as goal

abbrev pub invariant-outputs : goal.invariant-outputs
invariant-outputs l = l.copies.items ≡ take l.numbers-index l.ranks
