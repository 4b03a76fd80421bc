use Rattle.cq_resume.proofs.Adding.{Tallied}
use Rattle.cq_resume.proofs.packets.tally_packets.Given as goal

abbrev pub invariant-inputs : goal.invariant-inputs
invariant-inputs l = Tallied l.limits l.next l.schedule.came l.names l.input l.marks.items l.refused.items
